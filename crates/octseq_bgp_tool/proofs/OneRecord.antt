-- What is made of a record is a function of the record.
use Rattle.std.proofs.Common.{◌≡◌, ◌++◌, ◌∙◌, ℕ, [], Bool, true, false, List, codes, refl, sym, ap, subst}
use Rattle.std.proofs.Common.{if◌then◌else◌}
use Rattle.octseq.specs.Window.{Window, rest}
use Rattle.octseq_bgp.specs.declared.session.SessionConfig.{SessionConfig}
use Rattle.octseq_bgp_tool.specs.Records.{IsEventNote, IsRecordPiece, IsTakenEvent, IsTakenValue}
use Rattle.octseq_bgp_tool.specs.Records.{IsValueNote, IsRecordOutput}
use Rattle.octseq_bgp_tool.specs.Shown.{IsNote, IsRead}
use Rattle.octseq_bgp_tool.specs.declared.engine.records.Records.{Records}
use Rattle.octseq_bgp_tool.specs.declared.engine.records.Records.TheVariants.{Shown, Taken}
use Rattle.octseq_mrt.specs.Bgp4Mp.{Event}
use Rattle.octseq_mrt.specs.Record.{AreRecord, IsValue, Value}
use Rattle.octseq_mrt.specs.RecordText.{IsRecordText}
use Rattle.octseq_mrt.specs.declared.header.CommonHeader.{CommonHeader}

-- octets either are a message or aren't
one_read : (s : SessionConfig) (octets : List ℕ) (b c : Bool) → IsRead s octets b → IsRead s octets c → b ≡ c
one_read s octets true true p q = refl
one_read s octets false false p q = refl
one_read s octets true false p q = absurd (q p.0 p.1)
one_read s octets false true p q = absurd (p q.0 q.1)

one_taken_event : (v : Event) (x y : List ℕ) → IsTakenEvent v x → IsTakenEvent v y → x ≡ y
one_taken_event (Event.state_change states) x y p q = p ∙ sym q
one_taken_event (Event.message s octets) x y (a, is, e) (b, it, f) =
    e ∙ ap (λ b. if b then rest octets else []) (one_read s (rest octets) a b is it) ∙ sym f

one_taken : (v : Value) (x y : List ℕ) → IsTakenValue v x → IsTakenValue v y → x ≡ y
one_taken (Value.bgp4mp b) x y p q = one_taken_event b.event x y p q
one_taken (Value.peer_index_table t) x y p q = p ∙ sym q
one_taken (Value.rib r) x y p q = p ∙ sym q
one_taken (Value.opaque w) x y p q = p ∙ sym q

-- by the law of notes
module _ (one_note : (what : List ℕ) (s : SessionConfig) (number : ℕ) (octets x y : List ℕ) (b : Bool)
    → IsNote what s number octets b x → IsNote what s number octets b y → x ≡ y) where
  one_event_note : (number : ℕ) (v : Event) (x y : List ℕ) → IsEventNote number v x → IsEventNote number v y → x ≡ y
  one_event_note number (Event.state_change states) x y p q = p ∙ sym q
  one_event_note number (Event.message s octets) x y (a, is, e) (b, it, f) =
      let what = codes "message of record" in
      let same = one_read s (rest octets) a b is it in
      one_note what s number (rest octets) x y b (subst (λ b. IsNote what s number (rest octets) b x) same e) f

  one_value_note : (number : ℕ) (v : Value) (x y : List ℕ) → IsValueNote number v x → IsValueNote number v y → x ≡ y
  one_value_note number (Value.bgp4mp b) x y p q = one_event_note number b.event x y p q
  one_value_note number (Value.peer_index_table t) x y p q = p ∙ sym q
  one_value_note number (Value.rib r) x y p q = p ∙ sym q
  one_value_note number (Value.opaque w) x y p q = p ∙ sym q

-- by the law of texts
module _ (one_text : (r : CommonHeader × Window) (text other : List ℕ) → IsRecordText r text → IsRecordText r other
    → text ≡ other) where
  one_written : (c : Records) (r : CommonHeader × Window) (v : Value) (x y : List ℕ) → IsRecordOutput c r v x
      → IsRecordOutput c r v y → x ≡ y
  one_written Shown r v x y (text, p, e) (other, q, f) =
      e ∙ ap (λ l. l ++ codes "\n") (one_text r text other p q) ∙ sym f
  one_written Taken r v x y p q = one_taken v x y p q

-- also by the laws of records: octets are a record in one way, and it has one value
module _ (one_record : (octets : List ℕ) (a b : CommonHeader × Window) → AreRecord octets a → AreRecord octets b
    → a ≡ b)
    (one_value : (header : CommonHeader) (w : Window) (a b : Value) → IsValue header w a → IsValue header w b → a ≡ b)
    (one_text : (r : CommonHeader × Window) (text other : List ℕ) → IsRecordText r text → IsRecordText r other
    → text ≡ other)
    (one_note : (what : List ℕ) (s : SessionConfig) (number : ℕ) (octets x y : List ℕ) (b : Bool)
    → IsNote what s number octets b x → IsNote what s number octets b y → x ≡ y) where
  pub one_piece : (c : Records) (number : ℕ) (octets x y e f : List ℕ) (a b : Bool)
      → IsRecordPiece c number octets a x e → IsRecordPiece c number octets b y f → (a ≡ b) × (x ≡ y) × (e ≡ f)
  one_piece c number octets x y e f a b (r, v, are, says, w, n, fine) (q, u, also, say, z, m, all) =
      let same = one_record octets r q are also in
      let moved : IsValue q.0 q.1 v = subst (λ r. IsValue r.0 r.1 v) same says in
      let one = one_value q.0 q.1 v u moved say in
      let written = subst (λ v. IsRecordOutput c q v x) one (subst (λ r. IsRecordOutput c r v x) same w) in (
        fine ∙ sym all,
        one_written one_text c q u x y written z,
        one_value_note one_note number u e f (subst (λ v. IsValueNote number v e) one n) m,
      )

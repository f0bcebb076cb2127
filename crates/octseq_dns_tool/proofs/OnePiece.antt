-- What is made of a message is a function of the message.
use Rattle.std.proofs.Common.{◌≡◌, ◌++◌, ◌∙◌}
use Rattle.std.proofs.Common.{ℕ, inl, inr, Bool, true, false, List, length, codes, refl, sym, ap, subst, arith}
use Rattle.octseq.specs.Part.{part_of}
use Rattle.octseq_dns.specs.Contents.{message_octets}
use Rattle.octseq_dns.specs.Contents.{Message as Contents}
use Rattle.octseq_dns.specs.Entry.{Question, Record}
use Rattle.octseq_dns.specs.Message.{IsMessage}
use Rattle.octseq_dns.specs.MessageText.{IsMessageText}
use Rattle.octseq_dns.specs.Rewritten.{IsMessageOf}
use Rattle.octseq_dns.specs.declared.header.Header.{Header}
use Rattle.octseq_dns_message.proofs.Stops.{one_stop}
use Rattle.octseq_dns_tool.specs.Rewritten.{IsWrittenAnew, CannotMove, IsRewrittenTooLong, IsAnew, IsSuch}
use Rattle.octseq_dns_tool.specs.Shown.{HasText, IsMalformedMessage, IsMessagePiece, IsNote, IsShown}
use Rattle.octseq_dns_tool.specs.Taken.{IsBlock, IsLeftNote, IsMoved, IsPiece}
use Rattle.octseq_dns_tool.specs.declared.engine.stream.Messages.{Messages}
use Rattle.octseq_dns_tool.specs.declared.engine.stream.Messages.TheVariants.{Shown, Rewritten}
use Rattle.octseq_cli.specs.Frames.{stop_line}

-- octets that aren't a message have one note
pub one_note : (number : ℕ) (octets x y : List ℕ) (b : Bool) → IsNote number octets b x → IsNote number octets b y
    → x ≡ y
one_note number octets x y true p q = p ∙ sym q
one_note number octets x y false (here, is, e) (there, it, f) =
    e ∙ ap (stop_line (codes "message") number) (one_stop octets here there is it) ∙ sym f

-- by the laws of messages: octets are a message in one way, and a message has one text
module _ (one_message : (octets : List ℕ) (h k : Header) (q others : List Question) (a b d x y z : List Record)
    → IsMessage octets h q a b d → IsMessage octets k others x y z
    → (h ≡ k) × (q ≡ others) × (a ≡ x) × (b ≡ y) × (d ≡ z))
    (one_text : (header : Header) (questions : List Question) (answers authorities additionals : List Record)
    (text other : List ℕ)
    → IsMessageText header questions answers authorities additionals text
    → IsMessageText header questions answers authorities additionals other → text ≡ other) where
  -- octets that are a message have one text
  same_text : (octets x y : List ℕ) → HasText octets x → HasText octets y → x ≡ y
  same_text octets x y p q =
      let same =
      one_message octets p.header q.header p.questions q.questions p.answers p.authorities p.additionals q.answers
      q.authorities q.additionals p.is_message q.is_message in
      let a = subst (λ h. IsMessageText h p.questions p.answers p.authorities p.additionals x) same.0 p.is_text in
      let b = subst (λ l. IsMessageText q.header l p.answers p.authorities p.additionals x) same.1 a in
      let c = subst (λ l. IsMessageText q.header q.questions l p.authorities p.additionals x) same.2 b in
      let d = subst (λ l. IsMessageText q.header q.questions q.answers l p.additionals x) same.3 c in
      let e = subst (λ l. IsMessageText q.header q.questions q.answers q.authorities l x) same.4 d in
      one_text q.header q.questions q.answers q.authorities q.additionals x y e q.is_text

  -- octets are shown in one way
  pub one_shown : (octets x y : List ℕ) (b c : Bool) → IsShown octets b x → IsShown octets c y → (x ≡ y) × (b ≡ c)
  one_shown octets x y true true p q = (same_text octets x y p q, refl)
  one_shown octets x y false false p q = (p.1 ∙ sym q.1, refl)
  one_shown octets x y true false p q =
      absurd (q.0 p.header p.questions p.answers p.authorities p.additionals p.is_message)
  one_shown octets x y false true p q =
      absurd (p.0 q.header q.questions q.answers q.authorities q.additionals q.is_message)

  -- an input makes one piece
  pub one_message_piece : (number : ℕ) (octets x y e f : List ℕ) (a b : Bool) → IsMessagePiece number octets a x e
      → IsMessagePiece number octets b y f → (a ≡ b) × (x ≡ y) × (e ≡ f)
  one_message_piece number octets x y e f a b (p, n) (q, m) =
      let same = one_shown octets x y a b p q in
      (same.1, same.0, one_note number octets e f b (subst (λ a. IsNote number octets a e) same.1 n) m)

-- by the laws of messages: octets are a message in one way, and one message is written for it; and by the law that
-- octets are shown in one way
module _ (one_message : (octets : List ℕ) (h k : Header) (q others : List Question) (a b d x y z : List Record)
    → IsMessage octets h q a b d → IsMessage octets k others x y z
    → (h ≡ k) × (q ≡ others) × (a ≡ x) × (b ≡ y) × (d ≡ z))
    (one_message_of : (header : Header) (questions : List Question) (answers authorities additionals : List Record)
    (m n : Contents) → IsMessageOf header questions answers authorities additionals m
    → IsMessageOf header questions answers authorities additionals n → m ≡ n)
    (one_shown : (octets x y : List ℕ) (b c : Bool) → IsShown octets b x → IsShown octets c y → (x ≡ y) × (b ≡ c)) where
  -- what holds of the header and the lists of a message holds of those of each reading of its octets
  carried : (P : Header → List Question → List Record → List Record → List Record → Type 0) (octets : List ℕ)
      (h k : Header) (q others : List Question) (a b d x y z : List Record)
      → IsMessage octets h q a b d → IsMessage octets k others x y z → P h q a b d → P k others x y z
  carried P octets h k q others a b d x y z one other p =
      let same = one_message octets h k q others a b d x y z one other in
      subst (λ l. P k others x y l) same.4
      (subst (λ l. P k others x l d) same.3
      (subst (λ l. P k others l b d) same.2 (subst (λ l. P k l a b d) same.1 (subst (λ h. P h q a b d) same.0 p))))

  -- octets are rewritten in one way
  one_anew : (octets x y : List ℕ) → IsAnew octets x → IsAnew octets y → x ≡ y
  one_anew octets x y p q =
      let one =
      carried (λ h l a b d. IsWrittenAnew h l a b d x) octets p.header q.header p.questions q.questions p.answers
      p.authorities p.additionals q.answers q.authorities q.additionals p.is_message q.is_message p.is_written in
      let other = q.is_written in
      one.written ∙ ap (message_octets 16384)
      (one_message_of q.header q.questions q.answers q.authorities q.additionals one.contents other.contents
      one.contents_are other.contents_are) ∙ sym other.written

  -- octets that are a message aren't malformed
  anew_is_message : (octets x : List ℕ) → IsAnew octets x → IsMalformedMessage octets → ⊥
  anew_is_message octets x p malformed =
      malformed p.header p.questions p.answers p.authorities p.additionals p.is_message

  such_is_message : (P : Header → List Question → List Record → List Record → List Record → Type 0) (octets : List ℕ)
      → IsSuch P octets → IsMalformedMessage octets → ⊥
  such_is_message P octets p malformed =
      malformed p.header p.questions p.answers p.authorities p.additionals p.is_message

  -- octets that are rewritten aren't left out
  not_left : (number : ℕ) (octets x note : List ℕ) → IsAnew octets x → IsLeftNote number octets note → ⊥
  not_left number octets x note p (inl (bad, n)) = anew_is_message octets x p bad
  not_left number octets x note p (inr (inl (such, n))) =
      let stays =
      carried CannotMove octets such.header p.header such.questions p.questions such.answers such.authorities
      such.additionals p.answers p.authorities p.additionals such.is_message p.is_message such.holds in
      stays p.is_written.moves
  not_left number octets x note p (inr (inr (such, n))) =
      let is = p.is_written in
      let long =
      carried IsRewrittenTooLong octets such.header p.header such.questions p.questions such.answers such.authorities
      such.additionals p.answers p.authorities p.additionals such.is_message p.is_message such.holds in
      let past = long.1 is.contents is.contents_are in
      let few = is.size in
      let same = ap length is.written in
      omega (arith, past, few, same)

  -- octets are left out for one reason
  not_both : (octets : List ℕ) → IsSuch CannotMove octets → IsSuch IsRewrittenTooLong octets → ⊥
  not_both octets p q =
      let long =
      carried IsRewrittenTooLong octets q.header p.header q.questions p.questions q.answers q.authorities q.additionals
      p.answers p.authorities p.additionals q.is_message p.is_message q.holds in
      p.holds long.0

  one_left : (number : ℕ) (octets e f : List ℕ) → IsLeftNote number octets e → IsLeftNote number octets f → e ≡ f
  one_left number octets e f (inl (bad, n)) (inl (also, m)) = one_note number octets e f false n m
  one_left number octets e f (inl (bad, n)) (inr (inl (such, m))) =
      absurd (such_is_message CannotMove octets such bad)
  one_left number octets e f (inl (bad, n)) (inr (inr (such, m))) = absurd
      (such_is_message IsRewrittenTooLong octets such bad)
  one_left number octets e f (inr (inl (such, n))) (inl (bad, m)) =
      absurd (such_is_message CannotMove octets such bad)
  one_left number octets e f (inr (inl (such, n))) (inr (inl (other, m))) = n ∙ sym m
  one_left number octets e f (inr (inl (such, n))) (inr (inr (other, m))) = absurd (not_both octets such other)
  one_left number octets e f (inr (inr (such, n))) (inl (bad, m)) = absurd
      (such_is_message IsRewrittenTooLong octets such bad)
  one_left number octets e f (inr (inr (such, n))) (inr (inl (other, m))) = absurd (not_both octets other such)
  one_left number octets e f (inr (inr (such, n))) (inr (inr (other, m))) = n ∙ sym m

  one_block : (number : ℕ) (octets x y e f : List ℕ) (a b : Bool) → IsBlock number octets a x e
      → IsBlock number octets b y f → (a ≡ b) × (x ≡ y) × (e ≡ f)
  one_block number octets x y e f a b (is_message, shown, p, n, fine, w) (is_other, other, q, m, also, v) =
      let same = one_shown octets shown other is_message is_other p q in (
        fine ∙ sym also,
        w ∙ ap (λ l. l ++ codes "\n") same.0 ∙ sym v,
        one_note number octets e f is_other (subst (λ b. IsNote number octets b e) same.1 n) m,
      )

  one_moved : (number : ℕ) (octets x y e f : List ℕ) (a b : Bool) → IsMoved number octets a x e
      → IsMoved number octets b y f → (a ≡ b) × (x ≡ y) × (e ≡ f)
  one_moved number octets x y e f true true (anew, p, w, n) (other, q, v, m) =
      (refl, w ∙ ap (part_of 2) (one_anew octets anew other p q) ∙ sym v, n ∙ sym m)
  one_moved number octets x y e f true false (anew, p, w, n) (left, v) = absurd (not_left number octets anew f p left)
  one_moved number octets x y e f false true (left, v) (anew, p, w, n) = absurd (not_left number octets anew e p left)
  one_moved number octets x y e f false false (left, w) (also, v) = (
    refl,
    w ∙ sym v,
    one_left number octets e f left also,
  )

  -- a message makes one piece
  pub one_piece : (c : Messages) (number : ℕ) (octets x y e f : List ℕ) (a b : Bool)
      → IsPiece c number octets a x e → IsPiece c number octets b y f → (a ≡ b) × (x ≡ y) × (e ≡ f)
  one_piece Shown = one_block
  one_piece Rewritten = one_moved

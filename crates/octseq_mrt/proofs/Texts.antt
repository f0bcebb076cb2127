-- A record has at most one text.
use Rattle.std.proofs.Common.{◌≡◌, ℕ, List, [], ◌∷◌, ◌++◌, codes, sym, ap, ◌∙◌, subst}
use mathlib.Core.Logic.{inl, inr}
use Rattle.octseq.specs.Window.{Window}
use Rattle.octseq_bgp.specs.Parts.{Attribute, IsCounted, type_of, inside_of}
use Rattle.octseq_bgp.specs.MessageText.{line, IsMessageText}
use Rattle.octseq_bgp.specs.OneParts.{one_octets}
use Rattle.octseq_bgp.specs.declared.session.SessionConfig.{SessionConfig}
use Rattle.octseq_bgp.proofs.OneMessage.{one_message}
use Rattle.octseq_bgp.proofs.Texts.{one_message_text}
use Rattle.octseq_bgp.proofs.Values.{one_value}
use Rattle.octseq_bgp.proofs.Wholes.{one_whole}
use Rattle.octseq_mrt.specs.Bgp4Mp.{Bgp4Mp, Event}
use Rattle.octseq_mrt.specs.Record.{Value}
use Rattle.octseq_mrt.specs.RecordText.{rib_attribute_lines, AreRibAttributeLines, IsEntryText, AreEntryLines}
use Rattle.octseq_mrt.specs.RecordText.{rib_text, IsRibText, session_text, IsOctetsText, IsEventText, IsBgp4MpText}
use Rattle.octseq_mrt.specs.RecordText.{IsValueText, IsRecordText}
use Rattle.octseq_mrt.specs.Rib.{Rib, RibEntry, RibValue, IsRibValue, rib_session}
use Rattle.octseq_mrt.specs.Text.{entry_text}
use Rattle.octseq_mrt.specs.declared.header.CommonHeader.{CommonHeader}
use Rattle.octseq_mrt.proofs.OneRecord.{one_record_value}

-- ---- RIBs

-- an attribute of a RIB entry has at most one value
one_rib_value : (kind : ℕ) (w : Window) (a b : RibValue) → IsRibValue kind w a → IsRibValue kind w b → a ≡ b
one_rib_value kind w (RibValue.next_hop inside) (RibValue.next_hop other) a b =
    ap RibValue.next_hop (one_whole (IsCounted 1) (one_octets 1) w inside other a.1 b.1)
one_rib_value kind w (RibValue.next_hop inside) (RibValue.value v) a b = absurd (b.1 inside a)
one_rib_value kind w (RibValue.value v) (RibValue.next_hop inside) a b = absurd (a.1 inside b)
one_rib_value kind w (RibValue.value v) (RibValue.value other) a b =
    ap RibValue.value (one_value rib_session kind w v other a.0 b.0)

one_attributes : (row : List Attribute) (text other : List ℕ) → AreRibAttributeLines row text
    → AreRibAttributeLines row other → text ≡ other
one_attributes [] text other a b = a ∙ sym b
one_attributes (e ∷ more) text other a b =
    let values = one_rib_value (type_of e) (inside_of e) a.0 b.0 a.2 b.2 in
    let rests = one_attributes more a.1 b.1 a.3 b.3 in
    a.4 ∙ ap (λ v. rib_attribute_lines e v ++ a.1) values ∙ ap (λ rest. rib_attribute_lines e b.0 ++ rest) rests
    ∙ sym b.4

one_entry_text : (e : RibEntry) (text other : List ℕ) → IsEntryText e text → IsEntryText e other → text ≡ other
one_entry_text e text other a b =
    a.2 ∙ ap (λ attributes. line (codes "entry") (entry_text e) ++ attributes)
    (one_attributes e.attributes a.0 b.0 a.1 b.1) ∙ sym b.2

one_entries : (row : List RibEntry) (text other : List ℕ) → AreEntryLines row text → AreEntryLines row other
    → text ≡ other
one_entries [] text other a b = a ∙ sym b
one_entries (e ∷ more) text other a b =
    let heres = one_entry_text e a.0 b.0 a.2 b.2 in
    let rests = one_entries more a.1 b.1 a.3 b.3 in
    a.4 ∙ ap (λ here. here ++ a.1) heres ∙ ap (λ rest. b.0 ++ rest) rests ∙ sym b.4

one_rib_text : (h : CommonHeader) (r : Rib) (text other : List ℕ) → IsRibText h r text → IsRibText h r other
    → text ≡ other
one_rib_text h r text other a b =
    a.2 ∙ ap (λ entries. line (codes "rib") (rib_text h r) ++ entries) (one_entries r.entries a.0 b.0 a.1 b.1)
    ∙ sym b.2

-- ---- BGP4MP

one_octets_text : (s : SessionConfig) (octets text other : List ℕ) → IsOctetsText s octets text
    → IsOctetsText s octets other → text ≡ other
one_octets_text s octets text other (inl a) (inl b) =
    let messages = one_message s octets a.0 b.0 a.1 b.1 in
    one_message_text b.0 text other (subst (λ m. IsMessageText m text) messages a.2) b.2
one_octets_text s octets text other (inl a) (inr b) = absurd (b.0 a.0 a.1)
one_octets_text s octets text other (inr a) (inl b) = absurd (a.0 b.0 b.1)
one_octets_text s octets text other (inr a) (inr b) = a.1 ∙ sym b.1

one_event_text : (event : Event) (text other : List ℕ) → IsEventText event text → IsEventText event other
    → text ≡ other
one_event_text (Event.state_change states) text other a b = a ∙ sym b
one_event_text (Event.message session octets) text other a b = one_octets_text session _ text other a b

one_bgp4mp_text : (h : CommonHeader) (b : Bgp4Mp) (text other : List ℕ) → IsBgp4MpText h b text
    → IsBgp4MpText h b other → text ≡ other
one_bgp4mp_text h b text other is are =
    is.2 ∙ ap (λ event. line (codes "bgp4mp") (session_text h b) ++ event)
    (one_event_text b.event is.0 are.0 is.1 are.1) ∙ sym are.2

-- ---- records

one_value_text : (h : CommonHeader) (v : Value) (text other : List ℕ) → IsValueText h v text → IsValueText h v other
    → text ≡ other
one_value_text h (Value.peer_index_table t) text other a b = a ∙ sym b
one_value_text h (Value.rib r) text other a b = one_rib_text h r text other a b
one_value_text h (Value.bgp4mp m) text other a b = one_bgp4mp_text h m text other a b
one_value_text h (Value.opaque w) text other a b = a ∙ sym b

pub one_record_text : (r : CommonHeader × Window) (text other : List ℕ) → IsRecordText r text → IsRecordText r other
    → text ≡ other
one_record_text r text other a b =
    let values = one_record_value r.0 r.1 a.0 b.0 a.1 b.1 in
    one_value_text r.0 b.0 text other (subst (λ v. IsValueText r.0 v text) values a.2) b.2

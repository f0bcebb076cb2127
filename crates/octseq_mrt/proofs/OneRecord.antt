-- Octets are a record in at most one way, and it has one value.
use Rattle.std.proofs.Common.{◌≡◌, ℕ, [], ◌∷◌, Bool, true, false, Option, List, get_or, if◌then◌else◌, nat_eq, refl}
use Rattle.std.proofs.Common.{sym, ap, ◌∙◌, subst}
use mathlib.Core.Logic.{inl, inr}
use Rattle.octseq.specs.Window.{Window, whole}
use Rattle.octseq_format.specs.Counted.{Times}
use Rattle.octseq_format.specs.Laws.{IsOne, one_by}
use Rattle.octseq_format.specs.Pair.{◌then◌, ◌one_then◌}
use Rattle.octseq_bgp.specs.Parts.{IsNumber, IsPrefix}
use Rattle.octseq_bgp.specs.Family.{afi_of}
use Rattle.octseq_bgp.specs.OneParts.{one_number, one_deciding}
use Rattle.octseq_bgp.specs.Path.{asn_size}
use Rattle.octseq_bgp.specs.declared.family.Afi.{Afi}
use Rattle.octseq_bgp.specs.declared.family.Afi.TheVariants as addresses
use Rattle.octseq_bgp.specs.declared.family.AfiSafiType.{AfiSafiType}
use Rattle.octseq_bgp.specs.declared.family.AfiSafiType.TheVariants as family
use Rattle.octseq_bgp.proofs.Values.{OneSaid}
use Rattle.octseq_bgp.proofs.Wholes.{one_whole}
use Rattle.octseq_bgp.specs.Prefix.{most_bits}
use Rattle.octseq_mrt.specs.Address.{Address, IsFamily, family_number}
use Rattle.octseq_mrt.specs.Bgp4Mp.{Bgp4Mp, Event, IsBgp4MpFront, IsEvent, IsBgp4Mp}
use Rattle.octseq_mrt.specs.Header.{IsNext, IsHeader, IsRecord}
use Rattle.octseq_mrt.specs.Kind.{bgp4mp_number, kind_type, kind_subtype, has_wide_asns}
use Rattle.octseq_mrt.specs.OneListed.{one_address, one_optional, one_rib_entry}
use Rattle.octseq_mrt.specs.Peer.{Peer, PeerIndexTable, IsPeerIndexTable, IsTable}
use Rattle.octseq_mrt.specs.Record.{AreRecord, Value, Made, HasForm, IsTyped, IsValue}
use Rattle.octseq_mrt.specs.Rib.{Rib, RibEntry, IsRibEntry, IsRib}
use Rattle.octseq_mrt.specs.WrittenBack.{one_table, one_routes}
use Rattle.octseq_mrt.specs.declared.header.CommonHeader.{CommonHeader}
use Rattle.octseq_mrt.specs.declared.kind.Bgp4MpSubtype.{Bgp4MpSubtype}
use Rattle.octseq_mrt.specs.declared.kind.Bgp4MpSubtype.TheVariants as subtype
use Rattle.octseq_mrt.specs.declared.kind.RecordKind.{RecordKind}
use Rattle.octseq_mrt.specs.declared.kind.RecordKind.TheVariants as kind

-- ---- kinds are known by their types and subtypes

abbrev subtype_of : ℕ → Bgp4MpSubtype
subtype_of n = get_or (subtype.StateChange ∷ subtype.Message ∷ subtype.Message ∷ subtype.Message ∷ subtype.MessageAs4
    ∷ subtype.StateChangeAs4 ∷ subtype.MessageLocal ∷ subtype.MessageAs4Local ∷ subtype.MessageAddPath
    ∷ subtype.MessageAs4AddPath ∷ subtype.MessageLocalAddPath ∷ []) n subtype.MessageAs4LocalAddPath

subtype_again : (s : Bgp4MpSubtype) → subtype_of (bgp4mp_number s) ≡ s
subtype_again subtype.StateChange = refl
subtype_again _ = refl

abbrev table_of : ℕ → RecordKind
table_of n = get_or (kind.PeerIndexTable ∷ kind.PeerIndexTable ∷ kind.Rib family.Ipv4Unicast false
    ∷ kind.Rib family.Ipv4Multicast false ∷ kind.Rib family.Ipv6Unicast false ∷ kind.Rib family.Ipv6Multicast false
    ∷ kind.PeerIndexTable ∷ kind.PeerIndexTable ∷ kind.Rib family.Ipv4Unicast true
    ∷ kind.Rib family.Ipv4Multicast true ∷ kind.Rib family.Ipv6Unicast true ∷ []) n (kind.Rib family.Ipv6Multicast true)

abbrev kind_of : ℕ → ℕ → RecordKind
kind_of t n = if nat_eq t 13 then table_of n
    else if nat_eq t 16 then kind.Bgp4Mp (subtype_of n)
    else kind.Bgp4MpEt (subtype_of n)

kind_again : (k : RecordKind) → kind_of (kind_type k) (kind_subtype k) ≡ k
kind_again (kind.Rib family.Ipv4Unicast true) = refl
kind_again (kind.Rib _ false) = refl
kind_again (kind.Bgp4Mp s) = ap (λ s. kind.Bgp4Mp s) (subtype_again s)
kind_again (kind.Bgp4MpEt s) = ap (λ s. kind.Bgp4MpEt s) (subtype_again s)
kind_again _ = refl

one_kind : (k l : RecordKind) → kind_type k ≡ kind_type l → kind_subtype k ≡ kind_subtype l → k ≡ l
one_kind k l types subtypes =
    sym (kind_again k) ∙ ap (λ t. kind_of t (kind_subtype k)) types ∙ ap (kind_of (kind_type l)) subtypes ∙ kind_again l

-- ---- records

abbrev pub header_parts : CommonHeader → ℕ × (ℕ × (ℕ × ℕ))
header_parts h = (h.timestamp, (h.type_code, (h.subtype, h.length)))

abbrev pub header_from : ℕ × (ℕ × (ℕ × ℕ)) → CommonHeader
header_from p = record { timestamp = p.0; type_code = p.1.0; subtype = p.1.1.0; length = p.1.1.1 }

one_header : IsOne IsHeader
one_header = one_by header_parts header_from (λ _. refl)
    (one_number 4 one_then one_number 2 one_then one_number 2 one_then one_number 4)

one_next : (k : ℕ) → IsOne (IsNext k)
one_next k = record { same = λ w a b u v is other. (is.1 ∙ sym other.1, is.2 ∙ sym other.2) }

pub one_record : (octets : List ℕ) (a b : CommonHeader × Window) → AreRecord octets a → AreRecord octets b → a ≡ b
one_record octets a b = one_whole IsRecord (one_deciding one_header (λ h. one_next h.length)) (whole octets) a b

-- ---- peer index tables

abbrev pub table_from : ℕ × (Window × List Peer) → PeerIndexTable
table_from t = record { collector_bgp_id = t.0; view_name = t.1.0; peers = t.1.1 }

one_index_table : (w : Window) → OneSaid (IsPeerIndexTable w)
one_index_table w t u a b = ap table_from (one_whole IsTable one_table w (t.collector_bgp_id, (t.view_name, t.peers))
    (u.collector_bgp_id, (u.view_name, u.peers)) a b)

-- ---- RIBs

abbrev pub rib_from : AfiSafiType → ℕ × ((ℕ × Window) × List RibEntry) → Rib
rib_from f r = record { family = f; sequence = r.0; prefix = r.1.0; entries = r.1.1 }

one_rib : (f : AfiSafiType) (paths : Bool) (w : Window) → OneSaid (IsRib f paths w)
one_rib f paths w r s a b =
    let same = one_whole (IsNumber 4 then IsPrefix (most_bits (afi_of f)) then Times 2 (IsRibEntry paths))
    (one_routes (one_rib_entry paths) (most_bits (afi_of f))) w (r.sequence, (r.prefix, r.entries))
    (s.sequence, (s.prefix, s.entries)) a.1 b.1 in
    ap (λ f. rib_from f (r.sequence, (r.prefix, r.entries))) (a.0 ∙ sym b.0) ∙ ap (rib_from s.family) same

-- ---- BGP4MP

abbrev family_from : ℕ → Afi
family_from n = if nat_eq n 1 then addresses.Ipv4 else addresses.Ipv6

family_again : (afi : Afi) → family_from (family_number afi) ≡ afi
family_again addresses.Ipv4 = refl
family_again addresses.Ipv6 = refl

one_family : IsOne IsFamily
one_family = one_by family_number family_from family_again (one_number 2)

pub one_front : (extended wide : Bool) → IsOne (IsBgp4MpFront extended wide)
one_front extended wide = one_optional extended one_then one_number (asn_size wide) one_then one_number (asn_size wide)
    one_then one_number 2 one_then one_deciding one_family (λ afi. one_address afi one_then one_address afi)

-- the parts before the event
abbrev pub front_parts : Bgp4Mp → Afi → Option ℕ × (ℕ × (ℕ × (ℕ × (Afi × (Address × Address)))))
front_parts b afi =
    (b.microseconds, (b.peer_asn, (b.local_asn, (b.interface, (afi, (b.peer_addr, b.local_addr))))))

one_event : (s : Bgp4MpSubtype) (w : Window) → OneSaid (IsEvent s w)
one_event s w (Event.state_change m) (Event.state_change n) a b = ap (λ n. Event.state_change n)
    (one_whole (IsNumber 2 then IsNumber 2) (one_number 2 one_then one_number 2) w m n a.1 b.1)
one_event s w (Event.state_change m) (Event.message t o) a b = let x = a.0 in let y = b.0 in cc
one_event s w (Event.message t o) (Event.state_change n) a b = let x = a.0 in let y = b.0 in cc
one_event s w (Event.message t o) (Event.message u p) a b =
    ap (λ t. Event.message t o) (a.1 ∙ sym b.1) ∙ ap (λ o. Event.message u o) (a.2 ∙ sym b.2)

-- its fields, from what comes before an event
abbrev pub bgp4mp_from : Option ℕ × (ℕ × (ℕ × (ℕ × (Afi × (Address × Address))))) → Event → Bgp4Mp
bgp4mp_from p event = record {
  microseconds = p.0;
  peer_asn = p.1.0;
  local_asn = p.1.1.0;
  interface = p.1.1.1.0;
  peer_addr = p.1.1.1.1.1.0;
  local_addr = p.1.1.1.1.1.1;
  event = event;
}

one_bgp4mp : (extended : Bool) (s : Bgp4MpSubtype) (w : Window) → OneSaid (IsBgp4Mp extended s w)
one_bgp4mp extended s w a b is other =
    let at = (one_front extended (has_wide_asns s)).same w (front_parts a is.afi) (front_parts b other.afi) is.rest
    other.rest is.front other.front in
    let event = one_event s other.rest a.event b.event (subst (λ w. IsEvent s w a.event) at.1 is.event) other.event in
    ap (λ p. bgp4mp_from p a.event) at.0 ∙ ap (bgp4mp_from (front_parts b other.afi)) event

-- ---- the value of a record

one_made : {A : Type 0} (make : A → Value) {Is : A → Type 0} → OneSaid Is → OneSaid (Made make Is)
one_made make one v u a b = a.1 ∙ ap make (one a.0 b.0 a.2 b.2) ∙ sym b.1

one_form : (k : RecordKind) (w : Window) → OneSaid (HasForm k w)
one_form kind.PeerIndexTable w = one_made Value.peer_index_table (one_index_table w)
one_form (kind.Rib f paths) w = one_made Value.rib (one_rib f paths w)
one_form (kind.Bgp4Mp s) w = one_made Value.bgp4mp (one_bgp4mp false s w)
one_form (kind.Bgp4MpEt s) w = one_made Value.bgp4mp (one_bgp4mp true s w)

-- octets of a known kind have its form
pub form_of_kind : (h : CommonHeader) (k : RecordKind) (w : Window) (v : Value) → kind_type k ≡ h.type_code
    → kind_subtype k ≡ h.subtype → IsTyped h w v → HasForm k w v
form_of_kind h k w v types subtypes is =
    subst (λ k. HasForm k w v) (one_kind is.0 k (is.1 ∙ sym types) (is.2 ∙ sym subtypes)) is.3

one_typed : (h : CommonHeader) (w : Window) → OneSaid (IsTyped h w)
one_typed h w v u a b = one_form b.0 w v u (form_of_kind h b.0 w v b.1 b.2 a) b.3

pub one_record_value : (h : CommonHeader) (w : Window) (a b : Value) → IsValue h w a → IsValue h w b → a ≡ b
one_record_value h w v u (inl a) (inl b) = one_typed h w v u a b
one_record_value h w v u (inl a) (inr b) = absurd (b.1 v a)
one_record_value h w v u (inr a) (inl b) = absurd (a.1 u b)
one_record_value h w v u (inr a) (inr b) = a.0 ∙ sym b.0

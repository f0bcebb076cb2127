-- Octets are a message in at most one way.
use Rattle.std.proofs.Common.{◌≡◌, ℕ, List, length, sym, ap, ◌∙◌, subst}
use Rattle.octseq.specs.Window.{Window, whole}
use Rattle.octseq_format.specs.Laws.{IsOne}
use Rattle.octseq_format.specs.Pair.{◌then◌, ◌one_then◌}
use Rattle.octseq_format.specs.Rest.{IsRest, one_rest}
use Rattle.octseq_bgp.specs.MessageType as message_type
use Rattle.octseq_bgp.specs.Fills.{Whole, Fills}
use Rattle.octseq_bgp.specs.Message.{Message, IsHeader, IsBody, IsMessage, IsNotification, IsRouteRefresh}
use Rattle.octseq_bgp.specs.OneParts.{one_attribute, one_number, one_octets, one_tlv}
use Rattle.octseq_bgp.specs.Open.{Open, IsOpen, IsOpenFront, IsLong, IsLongPart, HasParameters}
use Rattle.octseq_bgp.specs.Parts.{Attribute, IsAttribute, IsCounted, IsNumber, IsTlv}
use Rattle.octseq_bgp.specs.Prefix.{Nlri, AreNlri}
use Rattle.octseq_bgp.specs.Session.{adds_path}
use Rattle.octseq_bgp.specs.Update.{Update, IsUpdate, IsUpdateParts}
use Rattle.octseq_bgp.specs.declared.family.Afi.TheVariants as addresses
use Rattle.octseq_bgp.specs.declared.family.AfiSafiType.TheVariants as family
use Rattle.octseq_bgp.specs.declared.session.SessionConfig.{SessionConfig}
use Rattle.octseq_bgp.proofs.Bodies.{as_open, as_update, as_notification, as_keepalive, as_route_refresh}
use Rattle.octseq_bgp.proofs.Moves.{attribute_moves, tlv_moves}
use Rattle.octseq_bgp.proofs.Wholes.{one_whole, one_fills, one_nlri}

-- ---- UPDATE

pub one_parts : IsOne IsUpdateParts
one_parts = one_octets 2 one_then one_octets 2 one_then one_rest

update_from : SessionConfig → List Nlri → List Attribute → List Nlri → Update
update_from session withdrawn attributes announced =
    record { session = session; withdrawn = withdrawn; attributes = attributes; announced = announced }

pub one_update : (s : SessionConfig) (w : Window) (u o : Update) → IsUpdate s w u → IsUpdate s w o → u ≡ o
unfolding update_from
one_update s w u o a b =
    let paths = adds_path s.add_path family.Ipv4Unicast in
    let Are = AreNlri paths addresses.Ipv4 in
    let session = a.of_session ∙ sym b.of_session in
    let same = one_whole IsUpdateParts one_parts w a.parts b.parts a.are b.are in
    let one = one_nlri paths addresses.Ipv4 b.parts.0 u.withdrawn o.withdrawn
    (subst (λ p. Are p.0 u.withdrawn) same a.withdrawn) b.withdrawn in
    let two = one_fills one_attribute attribute_moves b.parts.1.0 u.attributes o.attributes
    (subst (λ p. Fills IsAttribute p.1.0 u.attributes) same a.attributes) b.attributes in
    let three = one_nlri paths addresses.Ipv4 b.parts.1.1 u.announced o.announced
    (subst (λ p. Are p.1.1 u.announced) same a.announced) b.announced in
    ap (λ x. update_from x u.withdrawn u.attributes u.announced) session
    ∙ ap (λ x. update_from o.session x u.attributes u.announced) one
    ∙ ap (λ x. update_from o.session o.withdrawn x u.announced) two
    ∙ ap (λ x. update_from o.session o.withdrawn o.attributes x) three

-- ---- OPEN

pub one_long_part : IsOne IsLongPart
one_long_part = one_number 1 one_then one_number 1 one_then one_octets 2

one_parameters : (w : Window) (row others : List (ℕ × Window)) → HasParameters w row → HasParameters w others
    → row ≡ others
one_parameters w row others (HasParameters.short not inside is fills) (HasParameters.short _ there other rest) =
    let same = one_whole (IsCounted 1) (one_octets 1) w inside there is other in
    one_fills (one_tlv 1) (tlv_moves 1) there row others (subst (λ x. Fills (IsTlv 1) x row) same fills) rest
one_parameters w row others (HasParameters.short not _ _ _) (HasParameters.long is _ _ _) = absurd (not is)
one_parameters w row others (HasParameters.long is _ _ _) (HasParameters.short not _ _ _) = absurd (not is)
one_parameters w row others (HasParameters.long _ marks is fills) (HasParameters.long _ there other rest) =
    let same = one_whole IsLongPart one_long_part w marks there is other in
    one_fills (one_tlv 2) (tlv_moves 2) there.1.1 row others (subst (λ x. Fills (IsTlv 2) x.1.1 row) same fills) rest

-- if there are no parameters in the long form, there are none
pub no_long : (w : Window) → IsLong w → ((row : List (ℕ × Window)) (marks : ℕ × (ℕ × Window)) → Whole IsLongPart w marks
    → Fills (IsTlv 2) marks.1.1 row → ⊥) → (row : List (ℕ × Window)) → HasParameters w row → ⊥
no_long w is none row (HasParameters.short not _ _ _) = not is
no_long w is none row (HasParameters.long _ marks are fills) = none row marks are fills

-- nor if there are none in the short form
pub no_short : (w : Window) → (IsLong w → ⊥)
    → ((row : List (ℕ × Window)) (inside : Window) → Whole (IsCounted 1) w inside
    → Fills (IsTlv 1) inside row → ⊥) → (row : List (ℕ × Window)) → HasParameters w row → ⊥
no_short w not none row (HasParameters.short _ inside is fills) = none row inside is fills
no_short w not none row (HasParameters.long is _ _ _) = not is

pub one_open_front : IsOne IsOpenFront
one_open_front = one_number 1 one_then one_number 2 one_then one_number 2 one_then one_number 4 one_then one_rest

open_from : ℕ × (ℕ × (ℕ × (ℕ × Window))) → List (ℕ × Window) → Open
open_from n row = record {
  version = n.0;
  my_asn = n.1.0;
  holdtime = n.1.1.0;
  identifier = n.1.1.1.0;
  parameters = row;
}

abbrev pub open_numbers : Open → Window → ℕ × (ℕ × (ℕ × (ℕ × Window)))
open_numbers o rest = (o.version, (o.my_asn, (o.holdtime, (o.identifier, rest))))

pub one_open : (w : Window) (o p : Open) → IsOpen w o → IsOpen w p → o ≡ p
unfolding open_from
one_open w o p a b =
    let front = one_whole IsOpenFront one_open_front w (open_numbers o a.rest)
    (open_numbers p b.rest) a.front b.front in
    let row = one_parameters b.rest o.parameters p.parameters
    (subst (λ n. HasParameters n.1.1.1.1 o.parameters) front a.parameters) b.parameters in
    ap (λ n. open_from n o.parameters) front ∙ ap (λ row. open_from (open_numbers p b.rest) row) row

-- ---- any message

pub one_notification : IsOne IsNotification
one_notification = one_number 1 one_then one_number 1 one_then one_rest

pub one_route_refresh : IsOne IsRouteRefresh
one_route_refresh = one_number 2 one_then one_number 1 one_then one_number 1 one_then one_rest

one_body : (s : SessionConfig) (w : Window) (kind : ℕ) (m n : Message) → IsBody s w kind m → IsBody s w kind n → m ≡ n
one_body s w kind (Message.opens o) n a b =
    let other = as_open s w kind n a.0 b in
    ap (λ o. Message.opens o) (one_open w o other.0 a.1 other.2) ∙ sym other.1
one_body s w kind (Message.update u) n a b =
    let other = as_update s w kind n a.0 b in
    ap (λ u. Message.update u) (one_update s w u other.0 a.1 other.2) ∙ sym other.1
one_body s w kind (Message.notification m) n a b =
    let other = as_notification s w kind n a.0 b in
    ap (λ m. Message.notification m) (one_whole IsNotification one_notification w m other.0 a.1 other.2) ∙ sym other.1
one_body s w kind Message.keepalive n a b = sym (as_keepalive s w kind n a.0 b).0
one_body s w kind (Message.route_refresh r) n a b =
    let other = as_route_refresh s w kind n a.0 b in
    ap (λ r. Message.route_refresh r) (one_whole IsRouteRefresh one_route_refresh w r other.0 a.1 other.2) ∙ sym other.1

-- a header has one length, one type and one rest
pub one_header : (w : Window) (h k : ℕ × (ℕ × Window)) → IsHeader w h → IsHeader w k → h ≡ k
one_header w h k a b =
    ap (λ p. p.1) (one_whole (IsNumber 16 then IsNumber 2 then IsNumber 1 then IsRest)
    (one_number 16 one_then one_number 2 one_then one_number 1 one_then one_rest) w
    (message_type.marker, h) (message_type.marker, k) a b)

pub one_message : (s : SessionConfig) (octets : List ℕ) (m n : Message) → IsMessage s octets m → IsMessage s octets n
    → m ≡ n
one_message s octets m n a b =
    let same = one_header (whole octets) (length octets, (a.kind, a.body)) (length octets, (b.kind, b.body)) a.header
    b.header in
    one_body s b.body b.kind m n (subst (λ h. IsBody s h.1.1 h.1.0 m) same a.is) b.is

-- if nothing of its type follows a header, there is no message
pub no_message : (s : SessionConfig) (octets : List ℕ) (h : ℕ × (ℕ × Window)) → IsHeader (whole octets) h
    → ((m : Message) → IsBody s h.1.1 h.1.0 m → ⊥) → (m : Message) → IsMessage s octets m → ⊥
no_message s octets h is none m message =
    let same = one_header (whole octets) (length octets, (message.kind, message.body)) h message.header is in
    none m (subst (λ h. IsBody s h.1.1 h.1.0 m) same message.is)

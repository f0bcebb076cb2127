-- How many rows a BGP message has at most: twice as many as octets.
use Rattle.std.proofs.Common.{◌≡◌, ℕ, ◌+◌, ◌*◌, ◌≤◌, Bool, true, false, cond, List, [], ◌∷◌, length, ap, arith}
use Rattle.std.proofs.lemmas.List.Sums.{sum_by-cons}
use Rattle.octseq.specs.Window.{Window, left, whole}
use Rattle.octseq.specs.Integer.{be}
use Rattle.octseq_format.specs.Fixed.{onward_fixed}
use Rattle.octseq_format.specs.Rest.{IsRest}
use Rattle.octseq_format.specs.Row.{Row}
use Rattle.octseq_bgp.proofs.Wholes.{counted_left}
use Rattle.octseq_bgp.specs.Message.{Message, IsHeader, IsMessage}
use Rattle.octseq_bgp.specs.Parts.{Attribute, IsAttribute, IsCounted, IsNumber, inside_of, is_extended}
use Rattle.octseq_bgp.specs.ReadTurns.{message_turns}
use Rattle.octseq_bgp.specs.Update.{Update, IsUpdate}
use Rattle.octseq_bgp.specs.declared.session.SessionConfig.{SessionConfig}
use Rattle.octseq_c.specs.BgpRoom.{attributes_room, message_room}

-- what a number and a rest leave

pub number_left : (k : ℕ) (w v : Window) (n : ℕ) → IsNumber k w n v → left v + k ≤ left w
number_left k w v n is = (onward_fixed k be).less w n v is

rest_left : (w inside v : Window) → IsRest w inside v → left inside ≤ left w
rest_left w inside v is = let here = ap left is.0 in omega (arith, here)

-- ---- attributes

-- an attribute has two octets more than its value at least

length_left : (extended : Bool) (w inside v : Window) → cond extended (IsCounted 2) (IsCounted 1) w inside v
    → left inside + left v ≤ left w
length_left true w inside v is = counted_left 2 w inside v is
length_left false w inside v is = counted_left 1 w inside v is

attribute_left : (w v : Window) (e : Attribute) → IsAttribute w e v → 1 + left (inside_of e) + left v ≤ left w
attribute_left w v e (u, flags, (t, kind, value)) =
    let one = number_left 1 w u e.0 flags in
    let two = number_left 1 u t e.1.0 kind in
    let inside = length_left (is_extended e.0) t e.1.1 v value in
    omega (arith, one, two, inside)

-- one of some attributes has its room among that of all
pub room_cons : (e : Attribute) (more : List Attribute)
    → attributes_room (e ∷ more) ≡ 1 + left (inside_of e) + attributes_room more
room_cons e more = sum_by-cons (λ e. 1 + left (inside_of e)) e more

attributes_few : (w v : Window) (row : List Attribute) → Row IsAttribute w row v
    → attributes_room row + left v ≤ left w
attributes_few w v [] is = let same = ap left is in omega (arith, same)
attributes_few w v (e ∷ more) (u, here, rest) =
    let one = attribute_left w u e here in
    let few = attributes_few u v more rest in
    omega (arith, one, few, room_cons e more)

-- ---- the message

update_few : (s : SessionConfig) (w : Window) (u : Update) → IsUpdate s w u → attributes_room u.attributes ≤ left w
update_few s w u is =
    let (end, parts, none) = is.are in
    let (after, first, (after_both, second, last)) = parts in
    let attributes = attributes_few is.parts.1.0 is.attributes.0 u.attributes is.attributes.1.0 in
    let one = counted_left 2 w is.parts.0 after first in
    let two = counted_left 2 after is.parts.1.0 after_both second in
    omega (arith, attributes, one, two)

header_left : (w : Window) (h : ℕ × (ℕ × Window)) → IsHeader w h → left h.1.1 ≤ left w
header_left w h (v, (a, marker, (b, size, (c, kind, rest))), none) =
    let one = number_left 16 w a _ marker in
    let two = number_left 2 a b h.0 size in
    let three = number_left 1 b c h.1.0 kind in
    let four = rest_left c h.1.1 v rest in
    omega (arith, one, two, three, four)

pub message_few : (s : SessionConfig) (octets : List ℕ) (m : Message) → IsMessage s octets m
    → message_turns m ≤ length octets → message_room m ≤ 2 * length octets
message_few s octets (Message.opens o) is turns = omega arith
message_few s octets (Message.update u) is turns =
    let few = update_few s is.body u is.is.1 in
    let head = header_left (whole octets) (length octets, (is.kind, is.body)) is.header in
    omega (arith, few, head, turns)
message_few s octets (Message.notification n) is turns = omega arith
message_few s octets Message.keepalive is turns = omega arith
message_few s octets (Message.route_refresh r) is turns = omega arith

-- Reading octets that are a message stops at their end.
use Rattle.std.proofs.Common.{◌≡◌, ◌+◌, ◌≤◌, ℕ, Bool, true, false, List, length, inl, inr, refl, sym, ap, ◌∙◌, subst}
use Rattle.std.proofs.Common.{arith}
use Rattle.octseq.specs.Window.{Window, left, past, at, whole}
use Rattle.octseq_format.proofs.Parts.{part_of_counted}
use Rattle.octseq_bgp.specs.Fills.{Whole}
use Rattle.octseq_bgp.specs.Message.{Message, IsBody, IsMessage, IsNotification, IsRouteRefresh}
use Rattle.octseq_bgp.specs.Open.{Open, IsOpen, HasParameters}
use Rattle.octseq_bgp.specs.Parts.{IsCounted}
use Rattle.octseq_bgp.specs.Prefix.{Nlri, AreNlri}
use Rattle.octseq_bgp.specs.Session.{adds_path}
use Rattle.octseq_bgp.specs.Stop.{PrefixFilled, ParametersStop, OpenStop, UpdateStop, FixedStop, BodyStop, HasHeader}
use Rattle.octseq_bgp.specs.Stop.{IsStop}
use Rattle.octseq_bgp.specs.Update.{Update, IsUpdate}
use Rattle.octseq_bgp.specs.declared.family.Afi.TheVariants as addresses
use Rattle.octseq_bgp.specs.declared.family.AfiSafiType.TheVariants as family
use Rattle.octseq_bgp.specs.declared.session.SessionConfig.{SessionConfig}

-- octets after their length that end with a window
counted_end : (k : ℕ) (w inside : Window) → 1 ≤ k → Whole (IsCounted k) w inside → w.end ≡ inside.end
counted_end k w inside some is =
    let counted = part_of_counted k w inside is.0 is.1 in
    let room = counted.0.0 in
    let fits = counted.0.1 in
    let here = ap (λ (x : Window). x.end) counted.1 in
    let there = ap left counted.2 in
    let ends = is.2 in
    omega (arith, some, room, fits, here, there, ends)

-- ---- OPEN

parameters_end : (w : Window) (row : List (ℕ × Window)) → HasParameters w row → ParametersStop w w.end
parameters_end w row (HasParameters.short not inside is fills) =
    inr (not, inl (inside, is, inr ((row, fills), counted_end 1 w inside (omega arith) is)))
parameters_end w row (HasParameters.long long marks is fills) =
    let part = is.1 in
    let twice : w.position + 1 + 1 ≡ w.position + 2 = omega arith in
    let moved : part.2.0 ≡ past 2 w = part.2.1.2 ∙ ap (past 1) part.1.2 ∙ ap (λ p. at p w) twice in
    let counted : Whole (IsCounted 2) (past 2 w) marks.1.1 =
    (is.0, subst (λ u. IsCounted 2 u marks.1.1 is.0) moved part.2.2, is.2) in
    inl (long, inl (marks.1.1, counted, inr ((row, fills), counted_end 2 (past 2 w) marks.1.1 (omega arith) counted)))

-- they have at least one octet
parameters_some : (w : Window) (row : List (ℕ × Window)) → HasParameters w row → 1 ≤ left w
parameters_some w row (HasParameters.short _ inside is _) = is.1.2.0
parameters_some w row (HasParameters.long long _ _ _) = let two = long.0 in omega (arith, two)

open_end : (w : Window) (o : Open) → IsOpen w o → OpenStop w w.end
open_end w o is =
    let front = is.front.1 in
    let sum : w.position + 1 + 2 + 2 + 4 ≡ w.position + 9 = omega arith in
    let moved : is.rest ≡ past 9 w = front.2.2.2.2.0 ∙ front.2.2.2.1.2 ∙ ap (past 4) (front.2.2.1.2
    ∙ ap (past 2) (front.2.1.2 ∙ ap (past 2) front.1.2)) ∙ ap (λ p. at p w) sum in
    let some = parameters_some is.rest o.parameters is.parameters in
    let here = ap left moved in
    inl (
      omega (arith, some, here),
      subst (λ (rest : Window). ParametersStop rest rest.end) moved (parameters_end is.rest o.parameters is.parameters),
    )

-- ---- UPDATE

-- the window past octets after their length has the same end
same_end : (k : ℕ) (w inside v : Window) → IsCounted k w inside v → v.end ≡ w.end
same_end k w inside v is = ap (λ (x : Window). x.end) (part_of_counted k w inside v is).2

-- IPv4 prefixes that fill a window
prefixes_fill : (paths : Bool) (w : Window) (row : List Nlri) → AreNlri paths addresses.Ipv4 w row
    → PrefixFilled paths w
prefixes_fill true w row are = (are.0, are.1)
prefixes_fill false w row are = (are.0, are.1)

update_end : (s : SessionConfig) (w : Window) (u : Update) → IsUpdate s w u → UpdateStop s w w.end
update_end s w u is =
    let paths = adds_path s.add_path family.Ipv4Unicast in
    let parts = is.are.1 in
    let announced = subst (λ x. AreNlri paths addresses.Ipv4 x u.announced) parts.2.2.0 is.announced in
    let ends : w.end ≡ parts.2.0.end =
    sym (same_end 2 parts.0 is.parts.1.0 parts.2.0 parts.2.1 ∙ same_end 2 w is.parts.0 parts.0 parts.1) in
    inl (
      is.parts.0,
      parts.0,
      parts.1,
      inl (
        is.parts.1.0,
        parts.2.0,
        parts.2.1,
        inr (
          prefixes_fill paths is.parts.0 u.withdrawn is.withdrawn,
          inr ((u.attributes, is.attributes), inr (prefixes_fill paths parts.2.0 u.announced announced, ends)),
        ),
      ),
    )

-- ---- the others

notification_end : (w : Window) (n : ℕ × (ℕ × Window)) → Whole IsNotification w n
    → FixedStop 2 (λ offset. offset ≡ w.end) w w.end
notification_end w n is =
    let first = ap left is.1.1.2 in
    let one = is.1.1.0 in
    let two = is.1.2.1.0 in
    inl (omega (arith, first, one, two), refl)

route_refresh_end : (w : Window) (r : ℕ × (ℕ × (ℕ × Window))) → Whole IsRouteRefresh w r
    → FixedStop 4 (λ offset. offset ≡ w.end) w w.end
route_refresh_end w r is =
    let first = ap left is.1.1.2 in
    let second = ap left (is.1.2.1.2 ∙ ap (past 1) is.1.1.2) in
    let one = is.1.1.0 in
    let two = is.1.2.1.0 in
    let three = is.1.2.2.1.0 in
    inl (omega (arith, first, second, one, two, three), refl)

body_end : (s : SessionConfig) (w : Window) (kind : ℕ) (m : Message) → w.position ≤ w.end → IsBody s w kind m
    → BodyStop s kind w w.end
body_end s w kind (Message.opens o) ordered is = BodyStop.opens is.0 (open_end w o is.1)
body_end s w kind (Message.update u) ordered is = BodyStop.update is.0 (update_end s w u is.1)
body_end s w kind (Message.notification n) ordered is = BodyStop.notification is.0 (notification_end w n is.1)
body_end s w kind Message.keepalive ordered is =
    let none = is.1 in BodyStop.keepalive is.0 (omega (arith, ordered, none))
body_end s w kind (Message.route_refresh r) ordered is = BodyStop.route_refresh is.0 (route_refresh_end w r is.1)

-- a message has a known type
known : (s : SessionConfig) (w : Window) (kind : ℕ) (m : Message) → IsBody s w kind m → (1 ≤ kind) × (kind ≤ 5)
known s w kind (Message.opens o) is = let e = is.0 in (omega (arith, e), omega (arith, e))
known s w kind (Message.update u) is = let e = is.0 in (omega (arith, e), omega (arith, e))
known s w kind (Message.notification n) is = let e = is.0 in (omega (arith, e), omega (arith, e))
known s w kind Message.keepalive is = let e = is.0 in (omega (arith, e), omega (arith, e))
known s w kind (Message.route_refresh r) is = let e = is.0 in (omega (arith, e), omega (arith, e))

-- reading a message stops at its end
pub message_end : (s : SessionConfig) (octets : List ℕ) (m : Message) → IsMessage s octets m
    → IsStop s octets (length octets)
message_end s octets m message =
    let header = message.header.1 in
    let kind = message.kind in
    let body = message.body in
    let moved : body ≡ past 19 (whole octets) =
    header.2.2.2.0 ∙ header.2.2.1.2 ∙ ap (past 1) (header.2.1.2 ∙ ap (past 2) header.1.2) in
    let room = header.2.2.1.0 in
    let there = ap left (header.2.1.2 ∙ ap (past 2) header.1.2) in
    let position = ap (λ (x : Window). x.position) moved in
    let end = ap (λ (x : Window). x.end) moved in
    let has : HasHeader s octets kind body =
    record { header = message.header; short = message.short; known = known s body kind m message.is } in
    inl (
      kind,
      body,
      has,
      subst (BodyStop s kind body) end
          (body_end s body kind m (omega (arith, room, there, position, end)) message.is),
    )

-- OPENs, NOTIFICATIONs, KEEPALIVEs and ROUTE-REFRESHs that were written are read back.
use Rattle.std.proofs.Common.{◌≡◌, ℕ, ◌+◌, ◌<◌, ◌≤◌, ◌^◌, inl, inr, Bool, true, false, not, nat_eq, List, [], ◌∷◌, ◌++◌}
use Rattle.std.proofs.Common.{refl, sym, ap, ◌∙◌, subst, arith, append_assoc, length, map}
use Rattle.std.proofs.lemmas.Bool.{false≢true}
use Rattle.std.proofs.lemmas.List.Concat.{flat_map-cons}
use Rattle.std.specs.List.{AllByRecursion}
use Rattle.octseq.specs.Integer.{be, octets_be}
use Rattle.octseq.specs.Part.{part_of}
use Rattle.octseq.specs.Window.{Window, next, past}
use Rattle.octseq_format.specs.Counted.{CountFits, counted_octets}
use Rattle.octseq_format.specs.Fixed.{delimited_fixed}
use Rattle.octseq_format.specs.Integers.{are_be}
use Rattle.octseq_format.specs.Laws.{Relation, IsReadBack, back_of}
use Rattle.octseq_format.specs.Pair.{◌also◌, ◌and◌, ◌back_then◌, ◌before◌, both_octets, both_say}
use Rattle.octseq_bgp.specs.Composed.{long_after}
use Rattle.octseq_bgp.specs.Fills.{Whole}
use Rattle.octseq_bgp.specs.Message.{IsMessage, IsNotification, IsRouteRefresh, IsShortEnough, Message}
use Rattle.octseq_bgp.specs.OneOpen.{delimited_parameter, open_says, says_parameter}
use Rattle.octseq_bgp.specs.Open.{HasParameters, IsLong, IsLongPart, IsOpenFront, Open}
use Rattle.octseq_bgp.specs.WrittenMessage.{keepalive_octets, max_length}
use Rattle.octseq_bgp.specs.WrittenNotification.{WrittenNotification, notification_octets, notification_says}
use Rattle.octseq_bgp.specs.WrittenOpen.{FitsOpen, FitsParameter, WrittenOpen, WrittenParameter, is_apart, lengths}
use Rattle.octseq_bgp.specs.WrittenOpen.{most_parameters, numbers_octets, open_octets, parameter_octets}
use Rattle.octseq_bgp.specs.WrittenOpen.{parameters_octets}
use Rattle.octseq_bgp.specs.WrittenRouteRefresh.{WrittenRouteRefresh, route_refresh_octets, route_refresh_says}
use Rattle.octseq_bgp.specs.declared.session.SessionConfig.{SessionConfig}
use Rattle.octseq_bgp.proofs.Octets.{one_octet}
use Rattle.octseq_bgp.proofs.ReadBack.{counted_extent, counted_fits, counted_part, message_read}
use Rattle.octseq_bgp.proofs.WholesBack.{HasAll, IsExtent, extent, extent_back, extent_of, extent_octets, fills_back}
use Rattle.octseq_bgp.proofs.WholesBack.{has_extent}
use Rattle.octseq_bgp.proofs.WholesBack.{none_left, whole_back}

-- what is written as some octets is read of a window that has them
read_as : {A S : Type 0} {Is : Relation A} {says : A → S} {octets : S → List ℕ} {Fits : S → Type 0}
    → IsReadBack Is says octets Fits → (w : Window) (said : S) (all : List ℕ) → Fits said → octets said ≡ all
    → HasAll w all → (it : A) × (says it ≡ said) × Whole Is w it
read_as back w said all fits is has = whole_back back w said fits (subst (HasAll w) (sym is) has)

-- a message of a type that may be long
may_be_long : (s : SessionConfig) (kind n : ℕ) → 1 < kind → (kind ≡ 4 → ⊥) → n ≤ max_length s.extended_message
    → IsShortEnough s kind n
may_be_long s kind n other another fits = by_flag s.extended_message refl fits where
  by_flag : (extended : Bool) → s.extended_message ≡ extended → n ≤ max_length extended → IsShortEnough s kind n
  by_flag true is fits = inr (is, (λ same. omega (arith, same, other)), another)
  by_flag false is fits = inl fits

longest_few : (extended : Bool) → max_length extended ≤ 65535
longest_few true = omega arith
longest_few false = omega arith

-- ---- NOTIFICATION

notification_back : IsReadBack IsNotification ((λ n. n) and (λ n. n) and extent)
    (octets_be 1 before octets_be 1 before extent_octets) ((λ n. n < 256 ^ 1) also (λ n. n < 256 ^ 1) also IsExtent)
notification_back = delimited_fixed (are_be 1) back_then delimited_fixed (are_be 1) back_then extent_back

pub notification_read : (s : SessionConfig) (n : WrittenNotification) → n.code < 256 → n.subcode < 256
    → length (notification_octets n) ≤ max_length s.extended_message
    → (it : ℕ × (ℕ × Window)) × IsMessage s (notification_octets n) (Message.notification it)
    × (notification_says it ≡ n)
unfolding both_say both_octets
notification_read s n code subcode fits =
    let body = n.code ∷ n.subcode ∷ n.«data» in
    let is : octets_be 1 n.code ++ (octets_be 1 n.subcode ++ n.«data») ≡ body =
    ap (λ o. o ++ (octets_be 1 n.subcode ++ n.«data»)) (one_octet n.code code)
    ∙ ap (λ o. n.code ∷ (o ++ n.«data»)) (one_octet n.subcode subcode) in
    let few = longest_few s.extended_message in
    let count = long_after (19 + length body) 3 body in
    message_read Message.notification 3 body (omega arith) (omega (arith, fits, few, count))
    (may_be_long s 3 (19 + length body) (omega arith) (λ same. omega (arith, same)) (omega (arith, fits, count)))
    (λ b has.
    let read = read_as notification_back b (n.code, (n.subcode, extent_of n.«data»)) body
    (record { first = code; second = record { first = subcode; second = (refl, refl) } }) is has in (
      read.0,
      (refl, read.2),
      ap (λ r. record { code = r.0; subcode = r.1.0; «data» = r.1.1.1.1 }) read.1,
    ))

-- ---- KEEPALIVE

pub keepalive_read : (s : SessionConfig) → IsMessage s keepalive_octets Message.keepalive
keepalive_read s =
    (message_read {V = Unit {0}} {Says = λ _. Unit {0}} (λ _. Message.keepalive) 4 [] (omega arith) (omega arith)
    (inl (omega arith)) (λ b has. (tt, (refl, none_left b [] has), tt))).1

-- ---- ROUTE-REFRESH

route_refresh_back : IsReadBack IsRouteRefresh ((λ n. n) and (λ n. n) and (λ n. n) and extent)
    (octets_be 2 before octets_be 1 before octets_be 1 before extent_octets)
    ((λ n. n < 256 ^ 2) also (λ n. n < 256 ^ 1) also (λ n. n < 256 ^ 1) also IsExtent)
route_refresh_back = delimited_fixed (are_be 2) back_then delimited_fixed (are_be 1) back_then
    delimited_fixed (are_be 1) back_then extent_back

pub route_refresh_read : (s : SessionConfig) (r : WrittenRouteRefresh) → r.afi < 65536 → r.subtype < 256 → r.safi < 256
    → length (route_refresh_octets r) ≤ max_length s.extended_message
    → (it : ℕ × (ℕ × (ℕ × Window))) × IsMessage s (route_refresh_octets r) (Message.route_refresh it)
    × (route_refresh_says it ≡ r)
unfolding both_say both_octets
route_refresh_read s r afi subtype safi fits =
    let body = octets_be 2 r.afi ++ r.subtype ∷ r.safi ∷ r.orf in
    let is : octets_be 2 r.afi ++ (octets_be 1 r.subtype ++ (octets_be 1 r.safi ++ r.orf)) ≡ body =
    ap (λ o. octets_be 2 r.afi ++ (o ++ (octets_be 1 r.safi ++ r.orf))) (one_octet r.subtype subtype)
    ∙ ap (λ o. octets_be 2 r.afi ++ r.subtype ∷ (o ++ r.orf)) (one_octet r.safi safi) in
    let few = longest_few s.extended_message in
    let count = long_after (19 + length body) 5 body in
    message_read Message.route_refresh 5 body (omega arith) (omega (arith, fits, few, count))
    (may_be_long s 5 (19 + length body) (omega arith) (λ same. omega (arith, same)) (omega (arith, fits, count)))
    (λ b has.
    let read = read_as route_refresh_back b (r.afi, (r.subtype, (r.safi, extent_of r.orf))) body (record {
      first = afi;
      second = record { first = subtype; second = record { first = safi; second = (refl, refl) } };
    }) is has in (
      read.0,
      (refl, read.2),
      ap (λ x. record { afi = x.0; subtype = x.1.0; safi = x.1.1.0; orf = x.1.1.1.1.1 }) read.1,
    ))

-- ---- OPEN

front_back : IsReadBack IsOpenFront ((λ n. n) and (λ n. n) and (λ n. n) and (λ n. n) and extent)
    (octets_be 1 before octets_be 2 before octets_be 2 before octets_be 4 before extent_octets)
    ((λ n. n < 256 ^ 1) also (λ n. n < 256 ^ 2) also (λ n. n < 256 ^ 2) also (λ n. n < 256 ^ 4) also IsExtent)
front_back = delimited_fixed (are_be 1) back_then delimited_fixed (are_be 2) back_then delimited_fixed (are_be 2)
    back_then delimited_fixed (are_be 4) back_then extent_back

-- the front of an OPEN, before octets
front_octets : (o : WrittenOpen) (more : List ℕ)
    → octets_be 1 4 ++ (octets_be 2 o.my_asn ++ (octets_be 2 o.holdtime ++ (octets_be 4 o.identifier ++ more)))
    ≡ numbers_octets o ++ more
unfolding octets_be
front_octets o more = refl

-- what is read of a window that has parameters after their length
abbrev HasRead : Bool → List WrittenParameter → Window → Type 0
HasRead long said w = (row : List (ℕ × Window)) × HasParameters w row × (map says_parameter row ≡ said)

marks_back : IsReadBack IsLongPart ((λ n. n) and (λ n. n) and extent)
    (octets_be 1 before octets_be 1 before counted_octets 2 0 extent_octets)
    ((λ n. n < 256 ^ 1) also (λ n. n < 256 ^ 1) also CountFits 2 0 extent_octets IsExtent)
marks_back = delimited_fixed (are_be 1) back_then delimited_fixed (are_be 1) back_then back_of (counted_extent 2)

long_read : (said : List WrittenParameter) (w : Window) → AllByRecursion (FitsParameter true) said
    → length (parameters_octets true said) ≤ 65535
    → HasAll w (255 ∷ 255 ∷ part_of 2 (parameters_octets true said)) → HasRead true said w
unfolding both_say both_octets octets_be
long_read said w fits few has =
    let ps = parameters_octets true said in
    let read = read_as marks_back w (255, (255, extent_of ps)) (255 ∷ 255 ∷ part_of 2 ps) (record {
      first = omega arith;
      second = record { first = omega arith; second = counted_fits 2 ps (omega (arith, few)) };
    }) (ap (λ o. 255 ∷ 255 ∷ o) (counted_part 2 ps)) has in
    let is = read.2.1 in
    let row = fills_back (delimited_parameter true) read.0.1.1 said fits
    (has_extent read.0.1.1 ps (ap (λ r. r.1.1) read.1)) in
    let many = none_left w (255 ∷ 255 ∷ part_of 2 ps) has in
    let first : be (next 1 w) ≡ 255 = sym is.1.1 ∙ ap (λ r. r.0) read.1 in
    let second : be (next 1 (past 1 w)) ≡ 255 =
    ap (λ u. be (next 1 u)) (sym is.1.2) ∙ sym is.2.1.1 ∙ ap (λ r. r.1.0) read.1 in
    (row.0, HasParameters.long (omega (arith, many), omega (arith, first), second) read.0 read.2 row.2, row.1)

-- the octet after the length is the type of the first parameter, which isn't 255
not_long : (said : List WrittenParameter) (w : Window) → AllByRecursion (FitsParameter false) said
    → is_apart false said ≡ true → length (parameters_octets false said) ≤ 255
    → HasAll w (part_of 1 (parameters_octets false said)) → ¬ IsLong w
unfolding both_say both_octets octets_be
not_long [] w fits apart few has (two, _, _) =
    let many = none_left w (part_of 1 (parameters_octets false [])) has in
    omega (arith, two, many)
not_long (p ∷ row) w fits apart few has (_, _, mark) =
    let ps = parameters_octets false (p ∷ row) in
    let count = octets_be 1 (length p.1) in
    let tail = (count ++ p.1) ++ parameters_octets false row in
    let parts : octets_be 1 p.0 ++ tail ≡ ps =
    sym (append_assoc (octets_be 1 p.0) (count ++ p.1) (parameters_octets false row))
    ∙ sym (flat_map-cons (parameter_octets false) p row) in
    let read = read_as notification_back w (length ps, (p.0, extent_of tail)) (part_of 1 ps)
    (record { first = omega (arith, few); second = record { first = fits.0.kind; second = (refl, refl) } })
    (ap (λ o. octets_be 1 (length ps) ++ o) parts) has in
    let is = read.2.1 in
    let kind : p.0 ≡ 255 =
    sym (ap (λ r. r.1.0) read.1) ∙ is.2.1.1 ∙ ap (λ u. be (next 1 u)) is.1.2 ∙ mark in
    false≢true (ap (λ k. not (nat_eq k 255)) (sym kind) ∙ apart)

short_read : (said : List WrittenParameter) (w : Window) → AllByRecursion (FitsParameter false) said
    → is_apart false said ≡ true → length (parameters_octets false said) ≤ 255
    → HasAll w (part_of 1 (parameters_octets false said)) → HasRead false said w
short_read said w fits apart few has =
    let ps = parameters_octets false said in
    let read = read_as (back_of (counted_extent 1)) w (extent_of ps) (part_of 1 ps)
    (counted_fits 1 ps (omega (arith, few))) (counted_part 1 ps) has in
    let row = fills_back (delimited_parameter false) read.0 said fits (has_extent read.0 ps read.1) in
    (row.0, HasParameters.short (not_long said w fits apart few has) read.0 read.2 row.2, row.1)

parameters_read : (long : Bool) (said : List WrittenParameter) (w : Window) → AllByRecursion (FitsParameter long) said
    → is_apart long said ≡ true → length (parameters_octets long said) ≤ most_parameters long
    → HasAll w (lengths long (length (parameters_octets long said)) ++ parameters_octets long said)
    → HasRead long said w
parameters_read true said w fits apart few has = long_read said w fits few has
parameters_read false said w fits apart few has = short_read said w fits apart few has

pub open_read : (s : SessionConfig) (o : WrittenOpen) → FitsOpen o
    → (it : Open) × IsMessage s (open_octets o) (Message.opens it) × ((it.version ≡ 4) × (open_says o.long it ≡ o))
unfolding both_say both_octets
open_read s o fits =
    let ps = parameters_octets o.long o.parameters in
    let tail = lengths o.long (length ps) ++ ps in
    let body = numbers_octets o ++ tail in
    let short = fits.short in
    let count = long_after (19 + length body) 1 body in
    let few : 19 + length body ≤ 4096 = omega (arith, short, count) in
    message_read {s = s} {Says = λ x. (x.version ≡ 4) × (open_says o.long x ≡ o)} Message.opens 1 body (omega arith)
    (omega (arith, few)) (inl few) (λ b has.
    let read = read_as front_back b (4, (o.my_asn, (o.holdtime, (o.identifier, extent_of tail)))) body (record {
      first = omega arith;
      second = record {
        first = fits.my_asn;
        second = record { first = fits.holdtime; second = record { first = fits.identifier; second = (refl, refl) } };
      };
    }) (front_octets o tail) has in
    let row = parameters_read o.long o.parameters read.0.1.1.1.1 fits.parameters fits.apart fits.few
    (has_extent read.0.1.1.1.1 tail (ap (λ r. r.1.1.1.1) read.1)) in (
      record {
        version = read.0.0;
        my_asn = read.0.1.0;
        holdtime = read.0.1.1.0;
        identifier = read.0.1.1.1.0;
        parameters = row.0;
      },
      (refl, record { rest = read.0.1.1.1.1; front = read.2; parameters = row.1 }),
      (
        ap (λ r. r.0) read.1,
        ap (λ r. record {
          long = o.long;
          my_asn = r.1.0;
          holdtime = r.1.1.0;
          identifier = r.1.1.1.0;
          parameters = map says_parameter row.0;
        }) read.1 ∙ ap (λ row. record o { parameters = row }) row.2,
      ),
    ))

-- Octets are one AS path, which has one list of AS numbers, and no more of them than octets.
use Rattle.std.proofs.Common.{◌≡◌, ℕ, zero, suc, ◌+◌, ◌≤◌, Bool, true, false, List, [], ◌∷◌, length, drop}
use Rattle.std.proofs.Common.{inl, inr, ap, sym, subst, ◌∙◌, refl, arith, length-append}
use Rattle.std.proofs.lemmas.List.{length-map}
use Rattle.std.proofs.lemmas.List.Sums.{sum_by-cons}
use Rattle.octseq.specs.Window.{Window, left, rest, whole}
use Rattle.octseq.specs.declared.AsOctets.{Ghosts}
use Rattle.octseq_format.specs.Row.{Row}
use Rattle.octseq_bgp.proofs.Moves.{segment_moves}
use Rattle.octseq_bgp.proofs.Wholes.{one_fills}
use Rattle.octseq_bgp.specs.OneParts.{one_segment}
use Rattle.octseq_bgp.specs.Parts.{IsSegment, Segment}
use Rattle.octseq_bgp.specs.Path.{asn_size}
use Rattle.octseq_bgp.specs.Value.{IsPath, IsValue, Value}
use Rattle.octseq_bgp.specs.ValueOf.{value_of}
use Rattle.octseq_bgp.specs.ValueText.{numbers}
use Rattle.octseq_bgp.specs.declared.attribute.attribute_type.AttributeType.TheVariants as kind
use Rattle.octseq_bgp.specs.declared.attribute.path.AsPath.{AsPath}
use Rattle.octseq_bgp.specs.declared.attribute.value.AttributeValue.{AttributeValue}
use Rattle.octseq_bgp.specs.declared.attribute.value.AttributeValue.TheVariants as values
use Rattle.octseq_bgp.specs.declared.session.SessionConfig.{SessionConfig}
use Rattle.octseq_c.specs.BgpPath.{AreHopsOf, hops_of, path_room, row_of_asn, rows_of_segment}
use Rattle.octseq_c.specs.declared.bgp.path.BgpHop.{BgpHop}
use Rattle.octseq_c.proofs.BgpRoom.{number_left}

-- ---- one list of rows

one_path : (wide : Bool) (w : Window) (a b : Bool × List Segment) → IsPath wide w a → IsPath wide w b → a ≡ b
one_path wide w a b is other =
    let same = one_fills (one_segment (asn_size wide)) (segment_moves (asn_size wide)) w a.1 b.1 is.1 other.1 in
    ap (λ x. (x, a.1)) (is.0 ∙ sym other.0) ∙ ap (λ row. (b.0, row)) same

pub one_hops : (s : SessionConfig) (octets : List ℕ) (rows others : List BgpHop) → AreHopsOf s octets rows
    → AreHopsOf s octets others → rows ≡ others
one_hops s octets rows others a b =
    a.rows_are ∙ ap hops_of (one_path s.four_octet_asn (whole octets) a.path b.path a.is b.is) ∙ sym b.rows_are

-- a path has its rows
pub are_hops : (s : SessionConfig) (octets : List ℕ) (path : Bool × List Segment)
    → IsPath s.four_octet_asn (whole octets) path → AreHopsOf s octets (hops_of path)
are_hops s octets path is = record { path = path; is = is; rows_are = refl }

-- the value of an attribute of type 2 is a path, if its octets are one
pub path_value : (s : SessionConfig) (w : Window) (path : Bool × List Segment) → IsPath s.four_octet_asn w path
    → (v : Value) → IsValue s 2 w v → (path : Bool × List Segment) × (v ≡ Value.as_path path)
path_value s w path is v (inl (kind.AsPath, same, made)) = (made.0, made.1)
path_value s w path is v (inl (kind.Origin, same, made)) = absurd (omega (arith, same))
path_value s w path is v (inl (kind.NextHop, same, made)) = absurd (omega (arith, same))
path_value s w path is v (inl (kind.MultiExitDisc, same, made)) = absurd (omega (arith, same))
path_value s w path is v (inl (kind.LocalPref, same, made)) = absurd (omega (arith, same))
path_value s w path is v (inl (kind.AtomicAggregate, same, made)) = absurd (omega (arith, same))
path_value s w path is v (inl (kind.Aggregator, same, made)) = absurd (omega (arith, same))
path_value s w path is v (inl (kind.Communities, same, made)) = absurd (omega (arith, same))
path_value s w path is v (inl (kind.OriginatorId, same, made)) = absurd (omega (arith, same))
path_value s w path is v (inl (kind.ClusterList, same, made)) = absurd (omega (arith, same))
path_value s w path is v (inl (kind.MpReachNlri, same, made)) = absurd (omega (arith, same))
path_value s w path is v (inl (kind.MpUnreachNlri, same, made)) = absurd (omega (arith, same))
path_value s w path is v (inl (kind.ExtendedCommunities, same, made)) = absurd (omega (arith, same))
path_value s w path is v (inl (kind.As4Path, same, made)) = absurd (omega (arith, same))
path_value s w path is v (inl (kind.As4Aggregator, same, made)) = absurd (omega (arith, same))
path_value s w path is v (inl (kind.LargeCommunities, same, made)) = absurd (omega (arith, same))
path_value s w path is v (inr none) =
    absurd (none.1 (Value.as_path path) (kind.AsPath, refl, (path, refl, is)))

path_in : Bool × List Segment → Value → Bool × List Segment
path_in other (Value.as_path path) = path
path_in other _ = other

-- and if such a value is a path, its octets are that path
pub value_path : (s : SessionConfig) (w : Window) (v : Value) (path : Bool × List Segment) → IsValue s 2 w v
    → v ≡ Value.as_path path → IsPath s.four_octet_asn w path
unfolding path_in
value_path s w v path (inl (kind.AsPath, same, made)) is =
    subst (IsPath s.four_octet_asn w) (ap (path_in path) (sym made.1 ∙ is)) made.2
value_path s w v path (inl (kind.Origin, same, made)) is = absurd (omega (arith, same))
value_path s w v path (inl (kind.NextHop, same, made)) is = absurd (omega (arith, same))
value_path s w v path (inl (kind.MultiExitDisc, same, made)) is = absurd (omega (arith, same))
value_path s w v path (inl (kind.LocalPref, same, made)) is = absurd (omega (arith, same))
value_path s w v path (inl (kind.AtomicAggregate, same, made)) is = absurd (omega (arith, same))
value_path s w v path (inl (kind.Aggregator, same, made)) is = absurd (omega (arith, same))
value_path s w v path (inl (kind.Communities, same, made)) is = absurd (omega (arith, same))
value_path s w v path (inl (kind.OriginatorId, same, made)) is = absurd (omega (arith, same))
value_path s w v path (inl (kind.ClusterList, same, made)) is = absurd (omega (arith, same))
value_path s w v path (inl (kind.MpReachNlri, same, made)) is = absurd (omega (arith, same))
value_path s w v path (inl (kind.MpUnreachNlri, same, made)) is = absurd (omega (arith, same))
value_path s w v path (inl (kind.ExtendedCommunities, same, made)) is = absurd (omega (arith, same))
value_path s w v path (inl (kind.As4Path, same, made)) is = absurd (omega (arith, same))
value_path s w v path (inl (kind.As4Aggregator, same, made)) is = absurd (omega (arith, same))
value_path s w v path (inl (kind.LargeCommunities, same, made)) is = absurd (omega (arith, same))
value_path s w v path (inr none) is = let opaque = none.0 in absurd cc

-- a value that is seen as a path was read as one
pub as_path_of : {R : Type 0} {g : Ghosts R} (v : AttributeValue R g) (p : Bool × List Segment)
    → value_of v ≡ Value.as_path p → (path : AsPath R g) × (v ≡ values.AsPath path)
as_path_of (values.AsPath path) p is = (path, refl)
as_path_of (values.Origin n) p is = absurd cc
as_path_of (values.NextHop n) p is = absurd cc
as_path_of (values.MultiExitDisc n) p is = absurd cc
as_path_of (values.LocalPref n) p is = absurd cc
as_path_of values.AtomicAggregate p is = absurd cc
as_path_of (values.Aggregator it) p is = absurd cc
as_path_of (values.Communities items) p is = absurd cc
as_path_of (values.OriginatorId n) p is = absurd cc
as_path_of (values.ClusterList items) p is = absurd cc
as_path_of (values.MpReachNlri it) p is = absurd cc
as_path_of (values.MpUnreachNlri it) p is = absurd cc
as_path_of (values.ExtendedCommunities items) p is = absurd cc
as_path_of (values.As4Path path) p is = absurd cc
as_path_of (values.As4Aggregator it) p is = absurd cc
as_path_of (values.LargeCommunities items) p is = absurd cc
as_path_of (values.Opaque octets) p is = absurd cc

-- ---- how many

numbers_long : (k n : ℕ) (octets : List ℕ) → length (numbers k n octets) ≡ n
numbers_long k zero octets = refl
numbers_long k (suc n) octets = ap suc (numbers_long k n (drop k octets))

pub segment_long : (wide : Bool) (e : Segment) → length (rows_of_segment wide e) ≡ e.1.0
segment_long wide e =
    length-map (numbers (asn_size wide) e.1.0 (rest e.1.1)) (row_of_asn e.0 e.1.0)
    ∙ numbers_long (asn_size wide) e.1.0 (rest e.1.1)

pub path_long : (wide : Bool) (row : List Segment) → length (hops_of (wide, row)) ≡ path_room (wide, row)
path_long wide [] = refl
path_long wide (e ∷ more) =
    let both = length-append (rows_of_segment wide e) (hops_of (wide, more)) in
    let here = segment_long wide e in
    let rest = path_long wide more in
    omega (arith, both, here, rest, sum_by-cons (λ (e : Segment). e.1.0) e more)

-- a segment has more octets than AS numbers
segment_left : (wide : Bool) (w v : Window) (e : Segment) → IsSegment (asn_size wide) w e v
    → left v + e.1.0 ≤ left w
segment_left true w v e (a, kind, (b, count, (some, (scales, sized)))) =
    let one = number_left 1 w a e.0 kind.0 in
    let two = number_left 1 a b e.1.0 count in
    let room = sized.1 in
    let after = ap left sized.3 in
    omega (arith, one, two, room, after)
segment_left false w v e (a, kind, (b, count, (some, (scales, sized)))) =
    let one = number_left 1 w a e.0 kind.0 in
    let two = number_left 1 a b e.1.0 count in
    let room = sized.1 in
    let after = ap left sized.3 in
    omega (arith, one, two, room, after)

segments_left : (wide : Bool) (w v : Window) (row : List Segment) → Row (IsSegment (asn_size wide)) w row v
    → path_room (wide, row) + left v ≤ left w
segments_left wide w v [] is = let same = ap left is in omega (arith, same)
segments_left wide w v (e ∷ more) (u, here, rest) =
    let one = segment_left wide w u e here in
    let few = segments_left wide u v more rest in
    omega (arith, one, few, sum_by-cons (λ (e : Segment). e.1.0) e more)

pub path_few : (wide : Bool) (octets : List ℕ) (path : Bool × List Segment) → IsPath wide (whole octets) path
    → path_room path ≤ length octets
path_few wide octets path is =
    let few = segments_left wide (whole octets) is.1.0 path.1 is.1.1.0 in
    omega (arith, few)

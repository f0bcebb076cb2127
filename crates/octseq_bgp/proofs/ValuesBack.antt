-- Values of path attributes are read back.
use Rattle.std.proofs.Common.{◌≡◌, ℕ, ◌≤◌, Bool, true, Some, List, [], length, refl, ap, sym, ◌∙◌, subst}
use Rattle.std.proofs.Common.{arith}
use Rattle.std.proofs.lemmas.List.{map-id}
use Rattle.octseq.specs.Integer.{octets_be}
use Rattle.octseq.specs.Window.{Window}
use Rattle.octseq_format.specs.Fixed.{AreFixed, delimited_fixed, fixed_read_back}
use Rattle.octseq_format.specs.Integers.{are_be}
use Rattle.octseq_format.specs.Pair.{◌then◌, both_octets, both_say, ◌back_then◌}
use Rattle.octseq_format.specs.Row.{row_octets}
use Rattle.octseq_format.specs.Where.{IsWhere, where_read_back}
use Rattle.octseq_bgp.specs.Fills.{Whole}
use Rattle.octseq_bgp.specs.ItemOctets.{are_large}
use Rattle.octseq_bgp.specs.Parts.{IsNumber, Segment}
use Rattle.octseq_bgp.specs.Path.{asn_size}
use Rattle.octseq_bgp.specs.Value.{HasForm, IsPath, SomeItems, Value}
use Rattle.octseq_bgp.specs.WrittenPath.{FitsPath, WrittenSegment, path_octets, says_path}
use Rattle.octseq_bgp.specs.WrittenValue.{FitsAggregator, FitsForm, FitsIn, SomeFit, WrittenValue, aggregator_octets}
use Rattle.octseq_bgp.specs.WrittenValue.{says_value, value_octets, value_type}
use Rattle.octseq_bgp.specs.declared.session.SessionConfig.{SessionConfig}
use Rattle.octseq_bgp.proofs.PathsBack.{delimited_segment}
use Rattle.octseq_bgp.proofs.ReachBack.{reach_back, unreach_back}
use Rattle.octseq_bgp.proofs.WholesBack.{HasAll, fills_back, none_left, whole_back}

number_back : (k : ℕ) (w : Window) (n : ℕ) → FitsIn k n → HasAll w (octets_be k n) → Whole (IsNumber k) w n
number_back k w n fits all =
    let it = whole_back (fixed_read_back (are_be k)) w n fits all in
    subst (Whole (IsNumber k) w) it.1 it.2

abbrev IsOrigin : Window → ℕ → Type 0
IsOrigin w = Whole (IsWhere (IsNumber 1) (λ n. n) (λ n. n ≤ 2)) w

origin_back : (w : Window) (n : ℕ) → n ≤ 2 → HasAll w (octets_be 1 n) → IsOrigin w n
origin_back w n few all =
    let back = where_read_back (IsNumber 1) (λ n. n) (λ n. n ≤ 2) (octets_be 1) (FitsIn 1)
    (fixed_read_back (are_be 1)) in
    let it = whole_back back w n (omega (arith, few), few) all in
    subst (IsOrigin w) it.1 it.2

path_back : (wide : Bool) (w : Window) (path : List WrittenSegment) → FitsPath wide path
    → HasAll w (path_octets wide path)
    → (row : Bool × List Segment) × (says_path row ≡ path) × IsPath wide w row
path_back wide w path fits all =
    let row = fills_back (delimited_segment wide) w path fits all in
    ((wide, row.0), row.1, (refl, row.2))

aggregator_back : (k : ℕ) (w : Window) (it : ℕ × ℕ) → FitsAggregator k it → HasAll w (aggregator_octets k it)
    → Whole (IsNumber k then IsNumber 4) w it
unfolding both_octets both_say
aggregator_back k w it fits all =
    let back = delimited_fixed (are_be k) back_then fixed_read_back (are_be 4) in
    let found = whole_back back w it (record { first = fits.0; second = fits.1 }) all in
    subst (Whole (IsNumber k then IsNumber 4) w) found.1 found.2

items_back : {A : Type 0} {k : ℕ} {reads : List ℕ → A} {octets : A → List ℕ} {Fits : A → Type 0}
    → AreFixed k reads octets Fits → (w : Window) (row : List A) → SomeFit Fits row → HasAll w (row_octets octets row)
    → SomeItems k reads w row
items_back {k = k} {reads = reads} are w row fits all =
    let found = fills_back (delimited_fixed are) w row fits.1 all in
    let same = sym (map-id found.0) ∙ found.1 in
    subst (SomeItems k reads w) same (found.2, subst (λ row. 1 ≤ length row) (sym same) fits.0)

-- A value that fits is read back from a window of its octets.
pub value_back : (s : SessionConfig) (w : Window) (v : WrittenValue) → FitsForm s v → HasAll w (value_octets s v)
    → (value : Value) × (says_value value ≡ Some v) × HasForm s (value_type v) w value
value_back s w (WrittenValue.origin n) fits all = (Value.origin n, refl, (n, refl, origin_back w n fits all))
value_back s w (WrittenValue.as_path path) fits all =
    let row = path_back s.four_octet_asn w path fits all in
    (Value.as_path row.0, ap (λ path. Some (WrittenValue.as_path path)) row.1, (row.0, refl, row.2))
value_back s w (WrittenValue.next_hop n) fits all = (Value.next_hop n, refl, (n, refl, number_back 4 w n fits all))
value_back s w (WrittenValue.multi_exit_disc n) fits all =
    (Value.multi_exit_disc n, refl, (n, refl, number_back 4 w n fits all))
value_back s w (WrittenValue.local_pref n) fits all = (Value.local_pref n, refl, (n, refl, number_back 4 w n fits all))
value_back s w WrittenValue.atomic_aggregate fits all =
    (Value.atomic_aggregate, refl, (refl, none_left w [] all))
value_back s w (WrittenValue.aggregator it) fits all =
    (Value.aggregator it, refl, (it, refl, aggregator_back (asn_size s.four_octet_asn) w it fits all))
value_back s w (WrittenValue.communities row) fits all =
    (Value.communities row, refl, (row, refl, items_back (are_be 4) w row fits all))
value_back s w (WrittenValue.originator_id n) fits all =
    (Value.originator_id n, refl, (n, refl, number_back 4 w n fits all))
value_back s w (WrittenValue.cluster_list row) fits all =
    (Value.cluster_list row, refl, (row, refl, items_back (are_be 4) w row fits all))
value_back s w (WrittenValue.reach it) fits all =
    let found = reach_back s w it fits.0 fits.1 all in
    (Value.reach found.0, ap (λ it. Some (WrittenValue.reach it)) found.1, (found.0, refl, found.2))
value_back s w (WrittenValue.unreach it) fits all =
    let found = unreach_back s w it fits all in
    (Value.unreach found.0, ap (λ it. Some (WrittenValue.unreach it)) found.1, (found.0, refl, found.2))
value_back s w (WrittenValue.extended_communities row) fits all =
    (Value.extended_communities row, refl, (row, refl, items_back (are_be 8) w row fits all))
value_back s w (WrittenValue.as4_path path) fits all =
    let row = path_back true w path fits all in
    (Value.as4_path row.0, ap (λ path. Some (WrittenValue.as4_path path)) row.1, (row.0, refl, row.2))
value_back s w (WrittenValue.as4_aggregator it) fits all =
    (Value.as4_aggregator it, refl, (it, refl, aggregator_back 4 w it fits all))
value_back s w (WrittenValue.large_communities row) fits all =
    (Value.large_communities row, refl, (row, refl, items_back are_large w row fits all))

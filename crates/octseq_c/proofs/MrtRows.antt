-- Octets are one MRT record, which has one list of rows, and fewer rows than octets.
use Rattle.std.proofs.Common.{◌≡◌, ℕ, ◌+◌, ◌≤◌, List, [], ◌∷◌, length, ap, sym, refl, ◌∙◌, subst, arith, flat_map}
use Rattle.std.proofs.lemmas.List.{length-map, length-append}
use Rattle.std.proofs.lemmas.List.Sums.{sum_by-cons}
use Rattle.octseq.specs.Window.{Window, left, whole}
use Rattle.octseq_mrt.proofs.OneRecord.{one_record, one_record_value}
use Rattle.octseq_mrt.specs.Header.{IsHeader}
use Rattle.octseq_mrt.specs.ReadTurns.{entry_turns, entries_turns}
use Rattle.octseq_mrt.specs.Record.{AreRecord, IsValue, Value}
use Rattle.octseq_mrt.specs.Rib.{RibEntry}
use Rattle.octseq_mrt.specs.declared.header.CommonHeader.{CommonHeader}
use Rattle.octseq_c.specs.BgpRows.{row_of_attribute}
use Rattle.octseq_c.specs.MrtRows.{AreMrtAttributesOf, AreMrtRowsOf, IsMrtRecord, rows_of_attributes, rows_of_entries}
use Rattle.octseq_c.specs.MrtRows.{rows_of_record}
use Rattle.octseq_c.specs.declared.bgp.rows.BgpRow.{BgpRow}
use Rattle.octseq_c.specs.declared.mrt.row.MrtRow.{MrtRow}
use Rattle.octseq_c.proofs.BgpRoom.{number_left}

-- ---- one list of rows

one_value : (octets : List ℕ) (v u : Value) → IsMrtRecord octets v → IsMrtRecord octets u → v ≡ u
one_value octets v u a b = one_record_value b.found.0 b.found.1 v u
    (subst (λ f. IsValue f.0 f.1 v) (one_record octets a.found b.found a.is b.is) a.value_is) b.value_is

pub one_mrt_rows : (octets : List ℕ) (rows others : List MrtRow) → AreMrtRowsOf octets rows
    → AreMrtRowsOf octets others → rows ≡ others
one_mrt_rows octets rows others a b =
    a.rows_are ∙ ap rows_of_record (one_value octets a.value b.value a.is b.is) ∙ sym b.rows_are

pub one_mrt_attributes : (octets : List ℕ) (rows others : List BgpRow) → AreMrtAttributesOf octets rows
    → AreMrtAttributesOf octets others → rows ≡ others
one_mrt_attributes octets rows others a b =
    a.rows_are ∙ ap rows_of_entries (one_value octets a.value b.value a.is b.is) ∙ sym b.rows_are

-- the rows of a value are those of octets
pub are_rows : {octets : List ℕ} {value : Value} → IsMrtRecord octets value
    → AreMrtRowsOf octets (rows_of_record value)
are_rows {value = value} is = record { value = value; is = is; rows_are = refl }

pub are_attributes : {octets : List ℕ} {value : Value} → IsMrtRecord octets value
    → AreMrtAttributesOf octets (rows_of_entries value)
are_attributes {value = value} is = record { value = value; is = is; rows_are = refl }

-- ---- how many

-- what a header leaves
pub header_left : (w : Window) (h : CommonHeader) (v : Window) → IsHeader w h v → left v + 12 ≤ left w
header_left w h v (a, time, (b, kind, (c, subtype, size))) =
    let one = number_left 4 w a _ time in
    let two = number_left 2 a b _ kind in
    let three = number_left 2 b c _ subtype in
    let four = number_left 4 c v _ size in
    omega (arith, one, two, three, four)

-- a record has fewer octets after its header
pub record_few : (octets : List ℕ) (found : CommonHeader × Window) → AreRecord octets found
    → left found.1 + 12 ≤ length octets
record_few octets found (v, (u, header, (room, is, after)), none) =
    let head = header_left (whole octets) found.0 u header in
    let same = ap left is in
    omega (arith, head, room, same)

-- entries, and their attributes, take a turn each
pub entries_few : (entries : List RibEntry) → length entries ≤ entries_turns entries
entries_few [] = omega arith
entries_few (e ∷ more) =
    let rest = entries_few more in
    omega (arith, rest, sum_by-cons entry_turns e more)

pub attributes_few : (entries : List RibEntry) → length (flat_map rows_of_attributes entries) ≤ entries_turns entries
attributes_few [] = omega arith
attributes_few (e ∷ more) =
    let rest = attributes_few more in
    let both = length-append (rows_of_attributes e) (flat_map rows_of_attributes more) in
    omega (arith, rest, both, length-map e.attributes row_of_attribute, sum_by-cons entry_turns e more)

-- the first entry takes a turn for each of its attributes
pub entry_few : {row more : List RibEntry} (e : RibEntry) → row ≡ e ∷ more
    → 1 + length e.attributes + entries_turns more ≡ entries_turns row
entry_few {row} {more} e is = sym (ap entries_turns is ∙ sum_by-cons entry_turns e more)

-- There is one first wrong label, and if a label is wrong, they aren't all right.
use Rattle.std.proofs.Common.{◌≡◌, Option, Some, None, ℕ, ◌+◌, ◌<◌, ◌≤◌, if◌then◌else◌, List, [], ◌∷◌, ◌++◌, length}
use Rattle.std.proofs.Common.{Bor, map, get_or, take, drop, sym, ap, ◌∙◌, arith}
use Rattle.std.proofs.Math.Dec.{leb}
use Rattle.std.proofs.lemmas.Bool.{le-leb, lt-leb}
use Rattle.std.proofs.lemmas.List.{append-nil, take_more, drop_more, take-append-drop, map-append}
use Rattle.octseq.specs.Limit.{ExceedsLimit}
use Rattle.octseq_dns_name.specs.Name.{wire_length}
use Rattle.octseq_dns_name.specs.Unfit.{IsWrong, HasWrong, AreUnfit}
use Rattle.octseq_dns_name.specs.Wire.{AreLabels}
use Rattle.octseq_dns_name.specs.declared.error.FromLabelsError.{FromLabelsError}
use Rattle.octseq_dns_name.proofs.Names.{wire_append, wire_some}

-- ---- the first wrong label

-- what is wrong first, after labels of a wire length
abbrev first_wrong : ℕ → List (List ℕ) → Option FromLabelsError
first_wrong total [] = None
first_wrong total (label ∷ labels) = if leb (length label) 0 then Some FromLabelsError.EmptyLabel else
    (if leb 64 (length label) then Some FromLabelsError.LongLabel else
    (if leb 256 (total + 1 + length label) then Some FromLabelsError.LongName else
    first_wrong (total + 1 + length label) labels))

-- nothing is wrong in labels that are right
passed : (total after : ℕ) (before more : List (List ℕ)) → AreLabels before → after + 1 ≡ total + wire_length before
    → after ≤ 255 → first_wrong total (before ++ more) ≡ first_wrong after more
passed total after [] more are is fits = ap (λ n. first_wrong n more) (omega (arith, is))
passed total after (label ∷ before) more are is fits =
    let some = wire_some before in
    let one = are.0 in
    let few = are.1 in
    let first = lt-leb (length label) 0 (omega (arith, one)) in
    let second = lt-leb 64 (length label) (omega (arith, few)) in
    let third = lt-leb 256 (total + 1 + length label) (omega (arith, is, fits, some)) in
    rw (first, second, third) (passed (total + 1 + length label) after before more are.2 (omega (arith, is)) fits)

all_right : (labels : List (List ℕ)) → AreLabels labels → wire_length labels ≤ 255 → first_wrong 1 labels ≡ None
all_right labels are fits =
    ap (first_wrong 1) (sym (append-nil labels)) ∙ passed 1 (wire_length labels) labels [] are (omega arith) fits

-- a wrong label after them is the first
wrong_here : (fault : FromLabelsError) (before : List (List ℕ)) (label : List ℕ) (more : List (List ℕ))
    → IsWrong fault before label → first_wrong (wire_length before) (label ∷ more) ≡ Some fault
wrong_here FromLabelsError.EmptyLabel before label more is =
    let first = le-leb (length label) 0 (let none = ap length is in omega (arith, none)) in rw first
wrong_here FromLabelsError.LongLabel before label more is =
    let first = lt-leb (length label) 0 (omega (arith, is)) in
    let second = le-leb 64 (length label) (omega (arith, is)) in
    rw (first, second)
wrong_here FromLabelsError.LongName before label more (some, few, long) =
    let both = wire_append before (label ∷ []) in
    let first = lt-leb (length label) 0 (omega (arith, some)) in
    let second = lt-leb 64 (length label) (omega (arith, few)) in
    let third = le-leb 256 (wire_length before + 1 + length label) (omega (arith, long, both)) in
    rw (first, second, third)
wrong_here FromLabelsError.Short before label more is = absurd is
wrong_here FromLabelsError.Memory before label more is = absurd is

wrong_first : (fault : FromLabelsError) (labels : List (List ℕ)) → HasWrong fault labels
    → first_wrong 1 labels ≡ Some fault
wrong_first fault labels (before, label, more, is, are, fits, wrong) =
    ap (first_wrong 1) is ∙ passed 1 (wire_length before) before (label ∷ more) are (omega arith) fits
    ∙ wrong_here fault before label more wrong

-- ---- why labels are unfit

abbrev or_short : Option FromLabelsError → FromLabelsError
or_short None = FromLabelsError.Short
or_short (Some fault) = fault

unfit_as : (limit : Option ℕ) (fault : FromLabelsError) (labels : List (List ℕ)) → AreUnfit limit fault labels
    → fault ≡ or_short (first_wrong 1 labels)
unfit_as limit FromLabelsError.Short labels is = sym (ap or_short (all_right labels is.0 is.1))
unfit_as limit FromLabelsError.EmptyLabel labels is = sym (ap or_short (wrong_first _ labels is))
unfit_as limit FromLabelsError.LongLabel labels is = sym (ap or_short (wrong_first _ labels is))
unfit_as limit FromLabelsError.LongName labels is = sym (ap or_short (wrong_first _ labels is))
unfit_as limit FromLabelsError.Memory labels is = sym (ap or_short (wrong_first _ labels is))

-- they are so in one way
pub one_unfit : (limit : Option ℕ) (fault other : FromLabelsError) (labels : List (List ℕ))
    → AreUnfit limit fault labels → AreUnfit limit other labels → fault ≡ other
one_unfit limit fault other labels one two =
    unfit_as limit fault labels one ∙ sym (unfit_as limit other labels two)

-- a wrong label makes them so
pub unfit : (limit : Option ℕ) (fault : FromLabelsError) (labels : List (List ℕ)) → HasWrong fault labels
    → AreUnfit limit fault labels
unfit limit FromLabelsError.EmptyLabel labels has = has
unfit limit FromLabelsError.LongLabel labels has = has
unfit limit FromLabelsError.LongName labels has = has
unfit limit FromLabelsError.Short labels has = absurd has.6
unfit limit FromLabelsError.Memory labels has = has

-- and they aren't if none is wrong and they are within the limit
none_wrong : (fault : FromLabelsError) (labels : List (List ℕ)) → AreLabels labels → wire_length labels ≤ 255
    → ¬ HasWrong fault labels
none_wrong fault labels are fits is =
    let e : Some fault ≡ None = sym (wrong_first fault labels is) ∙ all_right labels are fits in cc

pub none_unfit : (limit : Option ℕ) (labels : List (List ℕ)) → AreLabels labels → wire_length labels ≤ 255
    → ¬ ExceedsLimit limit (wire_length labels) → (fault : FromLabelsError) → ¬ AreUnfit limit fault labels
none_unfit limit labels are fits within FromLabelsError.Short is = within is.2
none_unfit limit labels are fits within FromLabelsError.EmptyLabel is = none_wrong FromLabelsError.EmptyLabel labels
    are fits is
none_unfit limit labels are fits within FromLabelsError.LongLabel is = none_wrong FromLabelsError.LongLabel labels are
    fits is
none_unfit limit labels are fits within FromLabelsError.LongName is = none_wrong FromLabelsError.LongName labels are
    fits is
none_unfit limit labels are fits within FromLabelsError.Memory is = none_wrong FromLabelsError.Memory labels are fits is

-- ---- slices of octets

-- the octets of slices
abbrev pub contents : List (Bor (List ℕ)) → List (List ℕ)
contents = map (λ slice. slice.now)

-- the first ones, the one at a place, and those after it
pub parted : (xs : List (Bor (List ℕ))) (i : ℕ) (d : Bor (List ℕ)) → i < length xs
    → contents xs ≡ contents (take i xs) ++ (get_or xs i d).now ∷ contents (drop (i + 1) xs)
parted xs i d few =
    ap contents (sym (take-append-drop i xs) ∙ ap (λ l. take i xs ++ l) (drop_more xs i d few))
    ∙ map-append (λ slice. slice.now) (take i xs) (get_or xs i d ∷ drop (i + 1) xs)

-- one more than the first ones
pub taken : (xs : List (Bor (List ℕ))) (i : ℕ) (d : Bor (List ℕ)) → i < length xs
    → contents (take (i + 1) xs) ≡ contents (take i xs) ++ (get_or xs i d).now ∷ []
taken xs i d few =
    ap contents (take_more xs i d few) ∙ map-append (λ slice. slice.now) (take i xs) (get_or xs i d ∷ [])

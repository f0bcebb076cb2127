-- Octets inside a header don't depend on what follows it.
use Rattle.std.proofs.Common.{◌≡◌, ◌-◌, ◌≤◌, ◌++◌, ◌∙◌, ℕ, List, length, take, drop, sym, ap, take-append-drop, arith}
use Rattle.std.proofs.lemmas.List.{length-take, length-drop, take-append-le, drop-append-le}
use Rattle.std.specs.Prelude.{slice_range}

pub range_in_front : (x y : List ℕ) (i j : ℕ) → i ≤ j → j ≤ length x → slice_range (x ++ y) i j ≡ slice_range x i j
range_in_front x y i j ordered fits =
    let rest = length-drop {A = ℕ} i x in
    ap (take (j - i)) (drop-append-le i x y (omega (arith, ordered, fits)))
    ∙ take-append-le (j - i) (drop i x) y (omega (arith, ordered, fits, rest))

-- nor on whether anything does
pub range_of_front : (octets : List ℕ) (n i j : ℕ) → i ≤ j → j ≤ n → n ≤ length octets
    → slice_range octets i j ≡ slice_range (take n octets) i j
range_of_front octets n i j ordered fits long =
    let size = length-take {A = ℕ} n octets in
    ap (λ octets. slice_range octets i j) (sym (take-append-drop n octets))
    ∙ range_in_front (take n octets) (drop n octets) i j ordered (omega (arith, fits, long, size))

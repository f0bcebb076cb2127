-- A window is filled by values of k octets exactly if the number of its octets is a multiple of k.
use Rattle.std.proofs.Common.{◌≡◌, ℕ, zero, suc, ◌+◌, ◌-◌, ◌*◌, ◌/◌, ◌%◌, ◌<◌, ◌≤◌, List, [], ◌∷◌, length, take, drop}
use Rattle.std.proofs.Common.{refl, sym, ap, subst, ◌∙◌, arith}
use Rattle.std.proofs.lemmas.List.{drop-drop, drop-take, take-take}
use Rattle.std.proofs.Math.Nat.{mul-mod_right}
use Rattle.std.specs.Prelude.{slice_range}
use Rattle.octseq.specs.Window.{Window, left, next, past}
use Rattle.octseq_format.specs.Fixed.{IsFixed, one_fixed, onward_fixed}
use Rattle.octseq_format.specs.Laws.{moving_of}
use Rattle.octseq_format.specs.Row.{Row, Many, one_to}
use Rattle.octseq_bgp.specs.Fills.{Fills}

module _ {A : Type 0} (k : ℕ) (reads : List ℕ → A) where
  -- n of them, and where they end
  pub chunks : (n : ℕ) (w : Window) → k * n ≤ left w
      → (row : List A) × (v : Window) × Many n (IsFixed k reads) w row v × (left v + k * n ≡ left w)
  chunks zero w fits = ([], w, (refl, refl), omega arith)
  chunks (suc n) w fits =
      let more = chunks n (past k w) (omega (arith, fits)) in
      let many = more.2.0 in
      let all = more.3 in (
        reads (next k w) ∷ more.0,
        more.1,
        (omega (arith, many), (past k w, (omega (arith, fits), refl, refl), more.2.1)),
        omega (arith, fits, all),
      )

  -- the number of octets that they take
  pub row_left : (w v : Window) (row : List A) → Row (IsFixed k reads) w row v → left v + k * length row ≡ left w
  row_left w v [] is = let same = ap left is in omega (arith, same)
  row_left w v (x ∷ row) is =
      let here = ap left is.1.2 in
      let room = is.1.0 in
      let more = row_left is.0 v row is.2 in
      omega (arith, here, room, more)

-- values of k octets fill a window in one way
pub one_filling : {A : Type 0} (k : ℕ) (reads : List ℕ → A) → 0 < k → (w : Window) (row others : List A)
    → Fills (IsFixed k reads) w row → Fills (IsFixed k reads) w others → row ≡ others
one_filling k reads some w row others a b =
    ((one_to (IsFixed k reads) (one_fixed k reads) (moving_of (onward_fixed k reads) some)).same w row others a.0 b.0
    a.1 b.1).0

-- k divides the number of octets that values of k octets fill
pub fills_divided : {A : Type 0} (k d o : ℕ) (reads : List ℕ → A) (w : Window) (row : List A) → d ≡ k → o ≡ left w
    → Fills (IsFixed k reads) w row → o % d ≡ 0
fills_divided k d o reads w row same size fills =
    let all = row_left k reads w fills.0 row fills.1.0 in
    let none = fills.1.1 in
    let product : o ≡ k * length row = omega (arith, all, none, size) in
    ap (λ o. o % d) product ∙ ap (λ d. (k * length row) % d) same ∙ mul-mod_right k (length row)

-- a number that k divides is a multiple of k
pub divided : (k d o : ℕ) → d ≡ k → 0 < k → k * (o / d) + o % d ≡ o
divided k d o same some =
    subst (λ d. k * (o / d) + o % d ≡ o) (sym same) (omega (arith, some))

-- k octets of the n octets from p on, i octets after p
pub cut : (o : List ℕ) (p q i k n : ℕ) → q ≡ p + i → i + k ≤ n
    → take k (drop i (slice_range o p (p + n))) ≡ slice_range o q (q + k)
cut o p q i k n offset within =
    let ahead = drop p o in
    let all : p + n - p ≡ i + (n - i) = omega (arith, within) in
    let from : p + i ≡ q = omega (arith, offset) in
    let many : k ≡ q + k - q = omega arith in
    ap (λ m. take k (drop i (take m ahead))) all ∙ ap (take k) (drop-take i (n - i) ahead)
    ∙ take-take k (n - i) (drop i ahead) (omega (arith, within)) ∙ ap (take k) (drop-drop i p o)
    ∙ ap (λ x. take k (drop x o)) from ∙ ap (λ m. take m (drop q o)) many

-- Numbers that fill a window are the first numbers of its octets.
use Rattle.std.proofs.Common.{◌≡◌, ℕ, ◌*◌, List, [], ◌∷◌, length, take, Bool, true, false, refl, sym, ap, ◌∙◌, arith}
use Rattle.octseq.specs.Integer.{be}
use Rattle.octseq.specs.Window.{Window, left, rest}
use Rattle.octseq.proofs.Windows.{next_of_rest, rest_past}
use Rattle.octseq_format.specs.Row.{Row}
use Rattle.octseq_bgp.specs.Parts.{IsNumber}
use Rattle.octseq_bgp.specs.Fills.{Fills}
use Rattle.octseq_bgp.specs.Path.{asn_size}
use Rattle.octseq_bgp.specs.ValueText.{numbers}
use Rattle.octseq_bgp.proofs.Chunks.{row_left}

row_numbers : (k : ℕ) (w v : Window) (row : List ℕ) → Row (IsNumber k) w row v → row ≡ numbers k (length row) (rest w)
row_numbers k w v [] is = refl
row_numbers k w v (x ∷ row) is =
    let first = is.1.1 ∙ ap be (sym (next_of_rest w.octets w.position w.end k is.1.0)) in
    let more = row_numbers k is.0 v row is.2
    ∙ ap (numbers k (length row)) (sym (rest_past w is.0 k is.1.0 is.1.2)) in
    ap (λ n. n ∷ row) first ∙ ap (λ row. be (take k (rest w)) ∷ row) more

same_count : (wide : Bool) (m n : ℕ) → asn_size wide * m ≡ asn_size wide * n → m ≡ n
same_count true m n same = omega (arith, same)
same_count false m n same = omega (arith, same)

pub numbers_are : (wide : Bool) (w : Window) (count : ℕ) (row : List ℕ) → Fills (IsNumber (asn_size wide)) w row
    → left w ≡ asn_size wide * count → row ≡ numbers (asn_size wide) count (rest w)
numbers_are wide w count row fills size =
    let k = asn_size wide in
    let all = row_left k be w fills.0 row fills.1.0 in
    let none = fills.1.1 in
    let many = same_count wide (length row) count
    (let product : k * length row ≡ left w = omega (arith, all, none) in product ∙ size) in
    row_numbers k w fills.0 row fills.1.0 ∙ ap (λ n. numbers k n (rest w)) many

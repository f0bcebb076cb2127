-- What is read back fills its window.
use Rattle.std.proofs.Common.{◌≡◌, ℕ, ◌+◌, ◌-◌, List, ◌++◌, length, map, refl, ap, sym, ◌∙◌, arith}
use Rattle.std.specs.List.{AllByRecursion}
use Rattle.octseq.specs.Integer.{octets_be}
use Rattle.octseq.specs.Window.{Window, left, rest, past}
use Rattle.octseq_format.specs.Counted.{counted_octets}
use Rattle.octseq_format.specs.Laws.{Relation, IsReadBack, IsDelimited}
use Rattle.octseq_format.specs.Pair.{same_pair}
use Rattle.octseq_format.specs.Rest.{IsRest}
use Rattle.octseq_format.specs.Row.{row_octets, to_read_back}
use Rattle.octseq_bgp.specs.Fills.{Whole, Fills}

-- The octets of a window are these, up to its end.
pub record HasAll (w : Window) (octets : List ℕ) : Type 0 where
  pub are : rest w ≡ octets
  pub end : w.end ≡ w.position + length octets

-- a window has none left exactly if its octets are none
pub none_left : (w : Window) (octets : List ℕ) → HasAll w octets → left w ≡ length octets
none_left w octets all = let end = all.end in omega (arith, end)

module _ {A S : Type 0} {Is : Relation A} {says : A → S} {octets : S → List ℕ} {Fits : S → Type 0} where
  pub whole_back : IsReadBack Is says octets Fits → (w : Window) (said : S) → Fits said → HasAll w (octets said)
      → (it : A) × (says it ≡ said) × Whole Is w it
  whole_back back w said fits all =
      let taken = back.back w said fits all.are all.end in
      let end = all.end in
      (taken.it, taken.tells, (past (length (octets said)) w, taken.is, omega (arith, end)))

  pub fills_back : IsDelimited Is says octets Fits → (w : Window) (said : List S) → AllByRecursion Fits said
      → HasAll w (row_octets octets said) → (row : List A) × (map says row ≡ said) × Fills Is w row
  fills_back delimited w said fits all =
      let taken = (to_read_back Is says octets Fits delimited).back w said fits all.are all.end in
      (taken.it, taken.tells, (past (length (row_octets octets said)) w, taken.is))

-- ---- windows by what they have

-- how many octets a window has left, by how many its position is past its end, and the octets that are left
abbrev pub extent : Window → ℕ × (ℕ × List ℕ)
extent w = (left w, (w.position - w.end, rest w))

-- those of a window that has these octets, up to its end
abbrev pub extent_of : List ℕ → ℕ × (ℕ × List ℕ)
extent_of octets = (length octets, (0, octets))

abbrev pub extent_octets : ℕ × (ℕ × List ℕ) → List ℕ
extent_octets e = e.1.1

abbrev pub IsExtent : ℕ × (ℕ × List ℕ) → Type 0
IsExtent e = (e.0 ≡ length e.1.1) × (e.1.0 ≡ 0)

pub extent_back : IsReadBack IsRest extent extent_octets IsExtent
extent_back = record {
  back = λ w said fits is all.
      let many : left w ≡ length said.1.1 = omega (arith, all) in
      record {
        it = w;
        tells = same_pair (many ∙ sym fits.0) (same_pair (let none = fits.1 in omega (arith, all, none)) is);
        is = (refl, ap (λ n. past n w) (sym many));
      };
}

pub has_extent : (w : Window) (octets : List ℕ) → extent w ≡ extent_of octets → HasAll w octets
has_extent w octets same =
    let many : left w ≡ length octets = ap (λ e. e.0) same in
    let none : w.position - w.end ≡ 0 = ap (λ e. e.1.0) same in
    record { are = ap (λ e. e.1.1) same; end = omega (arith, many, none) }

-- octets after their length, whose number has nothing more to count
pub counted_is : {S : Type 0} (k : ℕ) (octets : S → List ℕ) (said : S)
    → counted_octets k 0 octets said ≡ octets_be k (length (octets said)) ++ octets said
counted_is k octets said =
    let same : 0 + length (octets said) ≡ length (octets said) = omega arith in
    ap (λ n. octets_be k n ++ octets said) same

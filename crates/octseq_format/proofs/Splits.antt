-- Values that tell the parts of a number.
use Rattle.std.specs.Prelude.{◌≡◌, ℕ, ◌≤◌, ◌^◌, List}
use Rattle.std.proofs.Common.{sym, subst, arith}
use Rattle.octseq_format.specs.Laws.{HasOctets}
use Rattle.octseq_format.specs.Pair.{◌before◌, ◌also◌}
use Rattle.octseq_format.specs.Split.{SplitFit}
use Rattle.octseq_format.proofs.Lens.{first_has, second_has}

module _ {S T : Type 0} (first : ℕ → S → List ℕ) (second : ℕ → T → List ℕ) (First : ℕ → S → Type 0)
    (Second : ℕ → T → Type 0) (one : S → ℕ) (two : T → ℕ) (m n number : ℕ) (both : S × T) where
  -- their octets
  both_have : HasOctets (first m before second n) (SplitFit (First m) (Second n) one two m n) both
      → HasOctets (first m before second n) (First m also Second n) both
  both_have has = record { fits = has.fits.both; few = has.few }

  -- a number is too great for a `usize` if its first part is
  pub first_long : HasOctets (first m before second n) (SplitFit (First m) (Second n) one two m n) both
      → (HasOctets (first (one both.0)) (First (one both.0)) both.0 → 2 ^ 64 ≤ one both.0) → m ≤ number
      → 2 ^ 64 ≤ number
  first_long has long below =
      let told = has.fits.one_told in
      let part = first_has (first m) (second n) (First m) (Second n) both (both_have has) in
      let great = long (subst (λ k. HasOctets (first k) (First k) both.0) (sym told) part) in
      omega (arith, great, told, below)

  -- or if its second part is
  pub second_long : HasOctets (first m before second n) (SplitFit (First m) (Second n) one two m n) both
      → (HasOctets (second (two both.1)) (Second (two both.1)) both.1 → 2 ^ 64 ≤ two both.1) → n ≤ number
      → 2 ^ 64 ≤ number
  second_long has long below =
      let told = has.fits.two_told in
      let part = second_has (first m) (second n) (First m) (Second n) both (both_have has) in
      let great = long (subst (λ k. HasOctets (second k) (Second k) both.1) (sym told) part) in
      omega (arith, great, told, below)

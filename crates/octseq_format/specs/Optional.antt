-- A value at the end of a window, or nothing.
use Rattle.std.specs.Prelude.{◌≡◌, ℕ, ◌+◌, ◌<◌, ◌≤◌, Option, Some, None, List, [], length, refl}
use Rattle.std.proofs.Common.{sym, ap, ◌∙◌, arith}
use Rattle.octseq.specs.Window.{Window, left, rest, at}
use Rattle.octseq_format.specs.Laws.{Relation, TakesOctets, IsOne, IsOnward, IsReadBack}

-- nothing if nothing is left, otherwise the value
abbrev pub IsOptional : {A : Type 0} → Relation A → Relation (Option A)
IsOptional Is w None v = (left w ≡ 0) × (v ≡ w)
IsOptional Is w (Some a) v = (0 < left w) × Is w a v

abbrev pub optional_says : {A S : Type 0} → (A → S) → Option A → Option S
optional_says says None = None
optional_says says (Some a) = Some (says a)

abbrev pub optional_octets : {S : Type 0} → (S → List ℕ) → Option S → List ℕ
optional_octets octets None = []
optional_octets octets (Some said) = octets said

-- It fits, and has at least one octet.
abbrev pub OptionalFits : {S : Type 0} → (S → List ℕ) → (S → Type 0) → Option S → Type 0
OptionalFits octets Fits None = Unit {0}
OptionalFits octets Fits (Some said) = Fits said × (0 < length (octets said))

-- the turns of the value, if it is there
abbrev pub optional_turns : {A : Type 0} → (A → ℕ) → Option A → ℕ
optional_turns turns None = 0
optional_turns turns (Some a) = turns a

-- ---- lemmas: proved below this line, so what the words mean is read above it

module _ {A : Type 0} (Is : Relation A) where
  same_optional : IsOne Is → (w : Window) (a b : Option A) (u v : Window) → IsOptional Is w a u → IsOptional Is w b v
      → (a ≡ b) × (u ≡ v)
  same_optional one w None None u v is other = (refl, is.1 ∙ sym other.1)
  same_optional one w None (Some b) u v is other = absurd (omega (arith, is.0, other.0))
  same_optional one w (Some a) None u v is other = absurd (omega (arith, is.0, other.0))
  same_optional one w (Some a) (Some b) u v is other =
      let same = one.same w a b u v is.1 other.1 in (ap Some same.0, same.1)

  pub one_optional : IsOne Is → IsOne (IsOptional Is)
  one_optional one = record { same = same_optional one }

  optional_on : {least : ℕ} → IsOnward least Is → (w : Window) (a : Option A) (v : Window) → w.position ≤ w.end
      → IsOptional Is w a v
      → (v.octets ≡ w.octets) × (v.end ≡ w.end) × (w.position ≤ v.position) × (v.position ≤ v.end)
  optional_on onward w None v ordered is =
      let position = ap (λ (v : Window). v.position) is.1 in
      let end = ap (λ (v : Window). v.end) is.1 in
      (ap (λ (v : Window). v.octets) is.1, end, omega (arith, position), omega (arith, position, end, ordered))
  optional_on onward w (Some a) v ordered is = onward.on w a v ordered is.1

  optional_less : {least : ℕ} → IsOnward least Is → (w : Window) (a : Option A) (v : Window) → IsOptional Is w a v
      → left v + 0 ≤ left w
  optional_less onward w None v is = let same = ap left is.1 in omega (arith, same)
  optional_less onward w (Some a) v is = let less = onward.less w a v is.1 in omega (arith, less)

  pub onward_optional : {least : ℕ} → IsOnward least Is → IsOnward 0 (IsOptional Is)
  onward_optional onward = record { on = optional_on onward; less = optional_less onward }

module _ {A S : Type 0} {Is : Relation A} {says : A → S} {octets : S → List ℕ} {Fits : S → Type 0} where
  pub optional_read_back : IsReadBack Is says octets Fits
      → IsReadBack (IsOptional Is) (optional_says says) (optional_octets octets) (OptionalFits octets Fits)
  optional_read_back one = record { back = back } where
    back : (w : Window) (said : Option S) → OptionalFits octets Fits said → rest w ≡ optional_octets octets said
        → w.end ≡ w.position + length (optional_octets octets said)
        → TakesOctets (IsOptional Is) (optional_says says) w said (length (optional_octets octets said))
    back w None fits is all =
        record { it = None; tells = refl; is = (omega (arith, all), ap (λ p. at p w) (omega arith)) }
    back w (Some said) fits is all =
        let taken = one.back w said fits.0 is all in
        record { it = Some taken.it; tells = ap Some taken.tells; is = (omega (arith, all, fits.1), taken.is) }

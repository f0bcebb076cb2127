-- A value that is there only if the key answers a question with yes.
use Rattle.std.specs.Prelude.{◌≡◌, ℕ, ◌+◌, ◌≤◌, Bool, true, false, IsTrue, IsFalse, Option, Some, None, List, ◌++◌}
use Rattle.std.specs.Prelude.{length, refl}
use Rattle.std.proofs.Common.{sym, ap, ◌∙◌, arith}
use Rattle.std.proofs.Math.Bool.{true≢false}
use Rattle.octseq.specs.Window.{Window, left, rest, at}
use Rattle.octseq_format.specs.Family.{ByKey}
use Rattle.octseq_format.specs.Laws.{Relation, TakesOctets, IsOne, IsOnward, IsReadBack, IsDelimited}
use Rattle.octseq_format.specs.Optional.{optional_says, optional_octets}

-- the value if the answer is yes, otherwise nothing
abbrev pub IsIf : {A : Type 0} → (ℕ → Bool) → Relation A → ByKey (Option A)
IsIf on Is key w None v = IsFalse (on key) × (v ≡ w)
IsIf on Is key w (Some a) v = IsTrue (on key) × Is w a v

-- There is a value that fits if the answer is yes, otherwise none.
abbrev pub IfFits : {S : Type 0} → (ℕ → Bool) → (S → Type 0) → ℕ → Option S → Type 0
IfFits on Fits key None = IsFalse (on key)
IfFits on Fits key (Some said) = IsTrue (on key) × Fits said

-- 1 for a value, 0 for none
abbrev pub told_if : {S : Type 0} → Option S → ℕ
told_if None = 0
told_if (Some said) = 1

-- ---- lemmas: proved below this line, so what the words mean is read above it

module _ {A : Type 0} (on : ℕ → Bool) (Is : Relation A) where
  same_if : IsOne Is → (key : ℕ) (w : Window) (a b : Option A) (u v : Window) → IsIf on Is key w a u
      → IsIf on Is key w b v → (a ≡ b) × (u ≡ v)
  same_if one key w None None u v is other = (refl, is.1 ∙ sym other.1)
  same_if one key w None (Some b) u v is other = absurd (true≢false (sym other.0 ∙ is.0))
  same_if one key w (Some a) None u v is other = absurd (true≢false (sym is.0 ∙ other.0))
  same_if one key w (Some a) (Some b) u v is other =
      let same = one.same w a b u v is.1 other.1 in (ap Some same.0, same.1)

  pub one_if : IsOne Is → (key : ℕ) → IsOne (IsIf on Is key)
  one_if one key = record { same = same_if one key }

  if_on : {least : ℕ} → IsOnward least Is → (key : ℕ) (w : Window) (a : Option A) (v : Window) → w.position ≤ w.end
      → IsIf on Is key w a v
      → (v.octets ≡ w.octets) × (v.end ≡ w.end) × (w.position ≤ v.position) × (v.position ≤ v.end)
  if_on onward key w None v ordered is =
      let position = ap (λ (v : Window). v.position) is.1 in
      let end = ap (λ (v : Window). v.end) is.1 in
      (ap (λ (v : Window). v.octets) is.1, end, omega (arith, position), omega (arith, position, end, ordered))
  if_on onward key w (Some a) v ordered is = onward.on w a v ordered is.1

  if_less : {least : ℕ} → IsOnward least Is → (key : ℕ) (w : Window) (a : Option A) (v : Window)
      → IsIf on Is key w a v → left v + 0 ≤ left w
  if_less onward key w None v is = let same = ap left is.1 in omega (arith, same)
  if_less onward key w (Some a) v is = let less = onward.less w a v is.1 in omega (arith, less)

  pub onward_if : {least : ℕ} → IsOnward least Is → (key : ℕ) → IsOnward 0 (IsIf on Is key)
  onward_if onward key = record { on = if_on onward key; less = if_less onward key }

module _ {A S : Type 0} (on : ℕ → Bool) {Is : Relation A} {says : A → S} {octets : S → List ℕ}
    {Fits : S → Type 0} where
  pub if_read_back : IsReadBack Is says octets Fits → (key : ℕ)
      → IsReadBack (IsIf on Is key) (optional_says says) (optional_octets octets) (IfFits on Fits key)
  if_read_back one key = record { back = back } where
    back : (w : Window) (said : Option S) → IfFits on Fits key said → rest w ≡ optional_octets octets said
        → w.end ≡ w.position + length (optional_octets octets said)
        → TakesOctets (IsIf on Is key) (optional_says says) w said (length (optional_octets octets said))
    back w None fits is all = record { it = None; tells = refl; is = (fits, ap (λ p. at p w) (omega arith)) }
    back w (Some said) fits is all =
        let taken = one.back w said fits.1 is all in
        record { it = Some taken.it; tells = ap Some taken.tells; is = (fits.0, taken.is) }

  pub delimited_if : IsDelimited Is says octets Fits → (key : ℕ)
      → IsDelimited (IsIf on Is key) (optional_says says) (optional_octets octets) (IfFits on Fits key)
  delimited_if one key = record { next = next } where
    next : (w : Window) (said : Option S) (more : List ℕ) → IfFits on Fits key said
        → rest w ≡ optional_octets octets said ++ more
        → TakesOctets (IsIf on Is key) (optional_says says) w said (length (optional_octets octets said))
    next w None more fits is = record { it = None; tells = refl; is = (fits, ap (λ p. at p w) (omega arith)) }
    next w (Some said) more fits is =
        let taken = one.next w said more fits.1 is in
        record { it = Some taken.it; tells = ap Some taken.tells; is = (fits.0, taken.is) }

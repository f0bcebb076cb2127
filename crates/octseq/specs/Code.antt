-- Codes: ways to write things as octets such that the front of the octets decides which thing it is.
use Rattle.std.specs.Prelude.{◌≡◌, ℕ, List, ◌++◌}

-- a thing that fits is at the front of the octets
abbrev pub HasFront : {A : Type 0} → (A → Type 0) → (A → List ℕ) → List ℕ → Type 0
HasFront {A} Fits code octets = (a : A) × (more : List ℕ) × Fits a × (octets ≡ code a ++ more)

-- the octets decide which thing it is, and what follows it
abbrev pub IsCode : {A : Type 0} → (A → Type 0) → (A → List ℕ) → Type 0
IsCode {A} Fits code = (a b : A) (x y : List ℕ) → Fits a → Fits b → code a ++ x ≡ code b ++ y → (a ≡ b) × (x ≡ y)

-- Texts that are made of pieces, one after another.
use Rattle.std.specs.Prelude.{◌≡◌, List, ℕ, ◌++◌}
use Rattle.std.specs.List.{AllByRecursion, concat}

-- a text is made of texts with a property, one after another, or is empty
abbrev pub IsMade : (List ℕ → Type 0) → List ℕ → Type 0
IsMade P text = (pieces : List (List ℕ)) × AllByRecursion P pieces × (text ≡ concat pieces)

-- a text begins with pieces, and what is left after them may follow them
abbrev pub Leaves : (List ℕ → Type 0) → (List ℕ → Type 0) → List ℕ → List ℕ → Type 0
Leaves P Follows text rest = (front : List ℕ) × IsMade P front × (text ≡ front ++ rest) × Follows rest

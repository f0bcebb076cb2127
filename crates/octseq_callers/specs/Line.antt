-- Lines of octets, ended by line feeds.
use Rattle.std.specs.List.{AllByRecursion}
use Rattle.std.specs.Prelude.{◌≡◌, ◌≢◌, ℕ, ◌⊎◌, List, [], ◌∷◌, ◌++◌}

-- the octets have no line feed
abbrev pub IsLine : List ℕ → Type 0
IsLine octets = AllByRecursion (λ octet. octet ≢ 10) octets

-- A line is at the front, followed by more: it ends with a line feed, or with the octets.
abbrev pub TakesLine : List ℕ → List ℕ → List ℕ → Type 0
TakesLine octets line more = IsLine line × ((octets ≡ line ++ 10 ∷ more) ⊎ ((octets ≡ line) × (more ≡ [])))

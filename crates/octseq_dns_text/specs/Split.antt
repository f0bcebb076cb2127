-- Octets, split at an octet.
use Rattle.std.specs.Prelude.{ℕ, ◌==◌, if◌then◌else◌, List, [], ◌∷◌, Option, Some, None}
use Rattle.std.specs.List.{slice_split}

-- the octets before the first such octet, or all of them
abbrev pub octets_before : ℕ → List ℕ → List ℕ
octets_before at [] = []
octets_before at (octet ∷ octets) = if octet == at then [] else octet ∷ octets_before at octets

-- the octets after it, if there is one
abbrev pub split_after : ℕ → List ℕ → Option (List ℕ)
split_after at [] = None
split_after at (octet ∷ octets) = if octet == at then Some octets else split_after at octets

-- the items of a list with commas (44) between them
abbrev pub items_of : List ℕ → List (List ℕ)
items_of list = slice_split (λ octet. octet == 44) list

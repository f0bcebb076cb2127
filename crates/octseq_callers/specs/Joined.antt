-- Words, with a separator between them.
use Rattle.std.specs.List.{flat_map}
use Rattle.std.specs.Prelude.{ℕ, List, [], ◌∷◌, ◌++◌}

-- the first word, and each other one after a separator
abbrev pub joined : List ℕ → List (List ℕ) → List ℕ
joined separator [] = []
joined separator (word ∷ words) = word ++ flat_map (λ other. separator ++ other) words

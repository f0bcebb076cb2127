-- How many loop turns the reading of a name takes.
use Rattle.std.specs.Prelude.{◌≡◌, ℕ, ◌+◌, List, length}
use Rattle.octseq.specs.Window.{Window}
use Rattle.octseq_dns_name.specs.Name.{IsName}

-- one for the root, for each label, and for each pointer
abbrev pub name_turns : {w v : Window} {labels : List (List ℕ)} → IsName w labels v → ℕ
name_turns {labels = labels} name = 1 + length labels + name.pointers

-- a count rose by the turns of the name at a window's position
abbrev pub CountsName : Window → ℕ → ℕ → Type 0
CountsName w old new =
    (labels : List (List ℕ)) (end : Window) (name : IsName w labels end) → new ≡ old + name_turns name

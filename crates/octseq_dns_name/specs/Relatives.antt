-- Relations between names: what is left of a name without its first labels, and the labels that it begins and ends
-- with.
use Rattle.std.specs.Prelude.{◌≡◌, ℕ, List, [], ◌∷◌, ◌++◌}
use Rattle.octseq.specs.Window.{Window}
use Rattle.octseq_dns_name.specs.NextLabel.{NextLabel}
use Rattle.octseq_dns_name.specs.Order.{lower_labels}

-- The last labels of a name are those of another, or its first ones are. ASCII case is ignored: RFC 4343.
abbrev pub NameEndsWith : List (List ℕ) → List (List ℕ) → Type 0
NameEndsWith labels others = (front : List (List ℕ)) × (lower_labels labels ≡ front ++ lower_labels others)

abbrev pub NameStartsWith : List (List ℕ) → List (List ℕ) → Type 0
NameStartsWith labels others = (rest : List (List ℕ)) × (lower_labels labels ≡ lower_labels others ++ rest)

-- the labels of a name, those of its parent, and so on to the root, which has none
abbrev pub suffixes : List (List ℕ) → List (List (List ℕ))
suffixes [] = [] ∷ []
suffixes (label ∷ labels) = (label ∷ labels) ∷ suffixes labels

-- the first label of the name at a window's position ends at the position of another window
abbrev pub FirstEndsAt : Window → Window → Type 0
FirstEndsAt w on = (label : Window) × (start : ℕ) × NextLabel w.position w label start on

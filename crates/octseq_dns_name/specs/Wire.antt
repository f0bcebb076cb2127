-- Names in plain wire form, without pointers: RFC 1035, 3.1.
use Rattle.std.specs.Prelude.{◌≡◌, ℕ, ◌≤◌, List, [], ◌∷◌, ◌++◌, length}
use Rattle.std.specs.List.{flat_map}
use Rattle.octseq_dns_name.specs.Name.{wire_length}

-- each label after its length, and the root
abbrev pub wire : List (List ℕ) → List ℕ
wire labels = flat_map (λ label. length label ∷ label) labels ++ 0 ∷ []

-- labels have 1 to 63 octets each
abbrev pub AreLabels : List (List ℕ) → Type 0
AreLabels [] = Unit {0}
AreLabels (label ∷ labels) = (1 ≤ length label) × (length label ≤ 63) × AreLabels labels

-- octets are the wire form of the name with these labels
abbrev pub IsWireOf : List (List ℕ) → List ℕ → Type 0
IsWireOf labels octets = (octets ≡ wire labels) × AreLabels labels × (wire_length labels ≤ 255)

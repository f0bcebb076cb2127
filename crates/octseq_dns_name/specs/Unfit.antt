-- Why labels don't make a name. They are checked in order, and the first fault decides.
use Rattle.std.specs.Prelude.{◌≡◌, Option, ℕ, ◌<◌, ◌≤◌, List, [], ◌∷◌, ◌++◌, length}
use Rattle.octseq.specs.Limit.{ExceedsLimit}
use Rattle.octseq_dns_name.specs.Name.{wire_length}
use Rattle.octseq_dns_name.specs.Wire.{AreLabels}
use Rattle.octseq_dns_name.specs.declared.error.FromLabelsError.{FromLabelsError}

-- What is wrong with the label after others: it is empty, has more than 63 octets, or the name has more than 255 with
-- it.
abbrev pub IsWrong : FromLabelsError → List (List ℕ) → List ℕ → Type 0
IsWrong FromLabelsError.EmptyLabel labels label = label ≡ []
IsWrong FromLabelsError.LongLabel labels label = 63 < length label
IsWrong FromLabelsError.LongName labels label =
    (1 ≤ length label) × (length label ≤ 63) × (255 < wire_length (labels ++ label ∷ []))
IsWrong _ labels label = ⊥

-- the first wrong label is wrong in this way
abbrev pub HasWrong : FromLabelsError → List (List ℕ) → Type 0
HasWrong fault labels = (before : List (List ℕ)) × (label : List ℕ) × (more : List (List ℕ))
    × (labels ≡ before ++ label ∷ more) × AreLabels before × (wire_length before ≤ 255) × IsWrong fault before label

-- a label is wrong, or none is and the name with all of them passes a limit
abbrev pub AreUnfit : Option ℕ → FromLabelsError → List (List ℕ) → Type 0
AreUnfit limit FromLabelsError.Short labels =
    AreLabels labels × (wire_length labels ≤ 255) × ExceedsLimit limit (wire_length labels)
AreUnfit limit fault labels = HasWrong fault labels

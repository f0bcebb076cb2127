-- Why a text is refused as a name. It is read from the left, and the first fault decides.
use Rattle.std.specs.Prelude.{◌≡◌, ◌⊎◌, ℕ, ◌<◌, ◌≤◌, List, [], ◌∷◌, ◌++◌, length}
use Rattle.octseq_dns_name.specs.Name.{wire_length}
use Rattle.octseq_dns_name.specs.Spelling.{SpellsOctet, SpellsLabel, SpellsLabels}
use Rattle.octseq_dns_name.specs.Wire.{AreLabels}
use Rattle.octseq_dns_name.specs.declared.error.FromTextError.{FromTextError}

-- a text begins with the spelling of a label, or of a part of it, followed by `rest`
abbrev pub ReadsLabelPart : List ℕ → List ℕ → List ℕ → Type 0
ReadsLabelPart text label rest = (first : List ℕ) × (text ≡ first ++ rest) × SpellsLabel label first

-- a text begins with whole labels, each followed by a full stop, of no more octets than a name may have
abbrev pub ReadsLabels : List ℕ → List (List ℕ) → List ℕ → Type 0
ReadsLabels text labels rest =
    (first : List ℕ) × (text ≡ first ++ rest) × SpellsLabels labels first × AreLabels labels
    × (wire_length labels ≤ 255)

-- whole labels and the octets of a last one are all of a text
abbrev pub ReadsAll : List ℕ → List (List ℕ) → List ℕ → Type 0
ReadsAll text labels last =
    (rest : List ℕ) × ReadsLabels text labels rest × ReadsLabelPart rest last [] × (length last ≤ 63)

-- a text doesn't begin with the spelling of an octet
abbrev pub SpellsNone : List ℕ → Type 0
SpellsNone text = (octet : ℕ) (first rest : List ℕ) → text ≡ first ++ rest → ¬ SpellsOctet octet first

-- what is wrong with an octet that begins such a text
abbrev pub IsIllegal : FromTextError → ℕ → Type 0
IsIllegal FromTextError.IllegalEscape octet = octet ≡ 92
IsIllegal FromTextError.IllegalOctet octet = ¬ (octet ≡ 92)
IsIllegal _ octet = ⊥

-- What is wrong with the label after whole ones, in the rest of the text: the text ends in it, or is empty; it has a
-- full stop (46) at its front; it has a 64th octet; the name has more than 255 octets with it; a backslash (92) spells
-- no octet; or another octet of the text spells none.
abbrev pub IsLabelFault : FromTextError → List (List ℕ) → List ℕ → Type 0
IsLabelFault FromTextError.UnexpectedEnd labels text =
    (label : List ℕ) × ReadsLabelPart text label [] × (length label ≤ 63) × ((labels ≡ []) ⊎ (1 ≤ length label))
IsLabelFault FromTextError.EmptyLabel labels text = (rest : List ℕ) × (text ≡ 46 ∷ rest)
IsLabelFault FromTextError.LongLabel labels text = (label rest : List ℕ) × ReadsLabelPart text label rest
    × (length label ≡ 64)
IsLabelFault FromTextError.LongName labels text =
    (label rest : List ℕ) × ReadsLabelPart text label (46 ∷ rest) × (1 ≤ length label) × (length label ≤ 63)
    × (255 < wire_length (labels ++ label ∷ []))
IsLabelFault FromTextError.IllegalEscape labels text =
    (label rest : List ℕ) × ReadsLabelPart text label (92 ∷ rest) × (length label ≤ 63) × SpellsNone (92 ∷ rest)
IsLabelFault FromTextError.IllegalOctet labels text =
    (octet : ℕ) × (label rest : List ℕ) × ReadsLabelPart text label (octet ∷ rest) × (length label ≤ 63)
    × ¬ (octet ≡ 46) × ¬ (octet ≡ 92) × SpellsNone (octet ∷ rest)

-- A text begins with whole labels, and this is wrong after them. The full stop of the root is a name.
abbrev pub IsNameRefused : FromTextError → List ℕ → Type 0
IsNameRefused fault text =
    ¬ (text ≡ 46 ∷ []) × (labels : List (List ℕ)) × (rest : List ℕ) × ReadsLabels text labels rest
    × IsLabelFault fault labels rest

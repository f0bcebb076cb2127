-- The printed text of a name spells it.
use Rattle.std.proofs.Common.{◌≡◌, ℕ, ◌<◌, Bool, true, false, if◌then◌else◌, List, [], ◌∷◌, refl, append_assoc, rules}
use Rattle.std.specs.Char.{is_ascii_digit, is_ascii_graphic}
use Rattle.octseq_dns_name.specs.Spelling.{SpellsOctet, SpellsLabel, SpellsLabels, SpellsName, AreOctetLabels}
use Rattle.octseq.specs.OctetsText.{three_digits}
use Rattle.octseq_dns_name.specs.Text.{is_quoted, octet_text, label_text, labels_text, name_text}
use Rattle.octseq_format.specs.Canonical.{AreOctets}

-- an octet that needs a backslash isn't a digit
letters : (octet : ℕ) → is_quoted octet ≡ true → is_ascii_digit octet ≡ false
letters octet reported = search rules

by_case : (octet : ℕ) (a b : Bool) → is_quoted octet ≡ a → is_ascii_graphic octet ≡ b → octet < 256
    → SpellsOctet octet (if a then 92 ∷ octet ∷ [] else (if b then octet ∷ [] else 92 ∷ three_digits octet))
by_case octet true b reported seen few = SpellsOctet.quoted (letters octet reported)
by_case octet false true reported seen few = SpellsOctet.plain reported seen
by_case octet false false reported seen few = SpellsOctet.numbered few

label_spelled : (label : List ℕ) → AreOctets label → SpellsLabel label (label_text label)
label_spelled [] are = refl
label_spelled (octet ∷ label) are = (
  octet_text octet,
  label_text label,
  refl,
  by_case octet (is_quoted octet) (is_ascii_graphic octet) refl refl are.0,
  label_spelled label are.1,
)

labels_spelled : (labels : List (List ℕ)) → AreOctetLabels labels → SpellsLabels labels (labels_text labels)
labels_spelled [] are = refl
labels_spelled (label ∷ labels) are = (
  label_text label,
  labels_text labels,
  append_assoc (label_text label) (46 ∷ []) (labels_text labels),
  label_spelled label are.0,
  labels_spelled labels are.1,
)

-- the printed text of a name spells that name
pub name_spelled : (labels : List (List ℕ)) → AreOctetLabels labels → SpellsName labels (name_text labels)
name_spelled [] are = refl
name_spelled (label ∷ labels) are = labels_spelled (label ∷ labels) are

-- How a name may be spelled in text: RFC 1035, 5.1. `Text` has the spelling that is printed.
use Rattle.std.specs.Prelude.{◌≡◌, ℕ, ◌<◌, true, false, List, [], ◌∷◌, ◌++◌}
use Rattle.std.specs.Char.{is_ascii_digit, is_ascii_graphic}
use Rattle.octseq.specs.OctetsText.{three_digits}
use Rattle.octseq_dns_name.specs.Text.{is_quoted}
use Rattle.octseq_format.specs.Canonical.{AreOctets}

-- An octet: as itself, if it is visible ASCII and needs no backslash (92); after a backslash, if it isn't a digit; or
-- as a backslash and its number.
pub data SpellsOctet : ℕ → List ℕ → Type 0 where
  plain : {octet : ℕ} → is_quoted octet ≡ false → is_ascii_graphic octet ≡ true → SpellsOctet octet (octet ∷ [])
  quoted : {octet : ℕ} → is_ascii_digit octet ≡ false → SpellsOctet octet (92 ∷ octet ∷ [])
  numbered : {octet : ℕ} → octet < 256 → SpellsOctet octet (92 ∷ three_digits octet)

-- a label: its octets, one after another
abbrev pub SpellsLabel : List ℕ → List ℕ → Type 0
SpellsLabel [] text = text ≡ []
SpellsLabel (octet ∷ label) text = (first rest : List ℕ) × (text ≡ first ++ rest) × SpellsOctet octet first
    × SpellsLabel label rest

-- labels: each followed by a full stop (46)
abbrev pub SpellsLabels : List (List ℕ) → List ℕ → Type 0
SpellsLabels [] text = text ≡ []
SpellsLabels (label ∷ labels) text = (first rest : List ℕ) × (text ≡ first ++ 46 ∷ rest) × SpellsLabel label first
    × SpellsLabels labels rest

-- a name: its labels, or the full stop of the root alone
abbrev pub SpellsName : List (List ℕ) → List ℕ → Type 0
SpellsName [] text = text ≡ 46 ∷ []
SpellsName (label ∷ labels) text = SpellsLabels (label ∷ labels) text

-- labels consist of octets, as those of every name do
abbrev pub AreOctetLabels : List (List ℕ) → Type 0
AreOctetLabels [] = Unit {0}
AreOctetLabels (label ∷ labels) = AreOctets label × AreOctetLabels labels

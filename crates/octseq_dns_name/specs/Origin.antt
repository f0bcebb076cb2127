-- How a name may be spelled in text with an origin: RFC 1035, 5.1.
use Rattle.std.specs.Prelude.{◌≡◌, ◌⊎◌, ℕ, ◌<◌, ◌≤◌, List, [], ◌∷◌, ◌++◌, length}
use Rattle.octseq_dns_name.specs.Name.{wire_length}
use Rattle.octseq_dns_name.specs.Refused.{ReadsLabelPart, ReadsLabels, IsNameRefused}
use Rattle.octseq_dns_name.specs.Spelling.{SpellsLabel, SpellsLabels, SpellsName}
use Rattle.octseq_dns_name.specs.declared.error.FromTextError.{FromTextError}

-- a relative name: labels, each followed by a full stop, and a last one without it, which isn't empty
abbrev pub SpellsRelative : List (List ℕ) → List ℕ → List ℕ → Type 0
SpellsRelative labels label text = (first last : List ℕ) × (text ≡ first ++ last) × SpellsLabels labels first
    × SpellsLabel label last × (1 ≤ length label)

-- A name: as without an origin; or the origin, as `@` (64) alone; or a relative name, followed by the origin's labels.
abbrev pub SpellsWithOrigin : List (List ℕ) → List (List ℕ) → List ℕ → Type 0
SpellsWithOrigin origin labels text =
    SpellsName labels text
    ⊎ ((text ≡ 64 ∷ []) × (labels ≡ origin))
    ⊎ ((own : List (List ℕ)) × (label : List ℕ) × SpellsRelative own label text × (labels ≡ own ++ label ∷ origin))

-- A text begins with whole labels and ends with one more, and with the origin's labels the name has more than 255
-- octets.
abbrev pub IsLongWithOrigin : List (List ℕ) → List ℕ → Type 0
IsLongWithOrigin origin text =
    (labels : List (List ℕ)) × (rest label : List ℕ) × ReadsLabels text labels rest × ReadsLabelPart rest label []
    × (1 ≤ length label) × (length label ≤ 63) × (255 < wire_length (labels ++ label ∷ origin))

-- Why a text is refused: as without an origin, except that only an empty text ends too soon, that a relative name may
-- be too long with the origin, and that `@` alone is a name.
abbrev pub IsRefusedWithOrigin : List (List ℕ) → FromTextError → List ℕ → Type 0
IsRefusedWithOrigin origin FromTextError.UnexpectedEnd text = text ≡ []
IsRefusedWithOrigin origin FromTextError.LongName text =
    IsNameRefused FromTextError.LongName text ⊎ IsLongWithOrigin origin text
IsRefusedWithOrigin origin FromTextError.IllegalOctet text =
    ¬ (text ≡ 64 ∷ []) × IsNameRefused FromTextError.IllegalOctet text
IsRefusedWithOrigin origin fault text = IsNameRefused fault text

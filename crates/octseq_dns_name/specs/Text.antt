-- The text of names: RFC 1035, 5.1.
use Rattle.std.specs.Prelude.{ℕ, Bool, if◌then◌else◌, List, [], ◌∷◌, ◌++◌, codes}
use Rattle.std.specs.Char.{char_set_contains, is_ascii_graphic}
use Rattle.std.specs.List.{flat_map}
use Rattle.octseq.specs.OctetsText.{three_digits}

-- whether an octet is written after a backslash, as itself
abbrev pub is_quoted : ℕ → Bool
is_quoted = char_set_contains (codes "\"().;\\@$")

-- An octet: after a backslash, if it needs one; as itself, if it is visible ASCII; or as a backslash (92) and its
-- number.
abbrev pub octet_text : ℕ → List ℕ
octet_text octet = if is_quoted octet then 92 ∷ octet ∷ [] else
    (if is_ascii_graphic octet then octet ∷ [] else 92 ∷ three_digits octet)

-- each octet of a label
abbrev pub label_text : List ℕ → List ℕ
label_text = flat_map octet_text

-- each label, followed by a full stop (46)
abbrev pub labels_text : List (List ℕ) → List ℕ
labels_text = flat_map (λ label. label_text label ++ 46 ∷ [])

-- a name: its labels, or the full stop of the root alone
abbrev pub name_text : List (List ℕ) → List ℕ
name_text [] = 46 ∷ []
name_text (label ∷ labels) = labels_text (label ∷ labels)

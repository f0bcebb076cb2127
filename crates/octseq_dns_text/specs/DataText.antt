-- The words of data: in the text of its type, or as opaque data (RFC 3597, 5).
use Rattle.std.specs.Prelude.{◌≡◌, ◌⊎◌, ℕ, ◌≤◌, Bool, false, Option, Some, None, List, ◌∷◌, length, codes}
use Rattle.std.specs.Str.Parse.{IsNumeral, digits_value}
use Rattle.octseq_dns_scan.specs.Hex.{IsHexText}
use Rattle.octseq_dns_text.specs.Layouts.{TextLayout, layout_of, IsLayoutText}
use Rattle.octseq_dns_text.specs.Runs.{AreRuns}
use Rattle.octseq_dns_text.specs.Tails.{has_list}

-- the number of the octets, and the octets in hexadecimal, in runs
abbrev pub IsSizedText : List (List ℕ) → List ℕ → Type 0
IsSizedText words octets = (number : List ℕ) × (runs : List (List ℕ)) × (words ≡ number ∷ runs)
    × IsNumeral 10 number × (digits_value 10 number ≤ 65535) × (length octets ≡ digits_value 10 number)
    × AreRuns IsHexText runs octets

-- the word before it
abbrev pub opaque_word : List ℕ
opaque_word = codes "\\#"

-- opaque data
abbrev pub IsOpaqueText : List (List ℕ) → List ℕ → Type 0
IsOpaqueText words octets =
    (after : List (List ℕ)) × (words ≡ opaque_word ∷ after) × IsSizedText after octets

-- the words don't begin as opaque data does
abbrev pub IsNotOpaque : List (List ℕ) → Type 0
IsNotOpaque words = (after : List (List ℕ)) → ¬ (words ≡ opaque_word ∷ after)

-- whether data of a type and a class ends in a list
abbrev pub ends_in_list : Option TextLayout → Bool
ends_in_list None = false
ends_in_list (Some layout) = has_list layout.tail

-- data of a type and a class in its layout
abbrev pub IsTypedText : Option (List (List ℕ)) → ℕ → ℕ → List (List ℕ) → List ℕ → Type 0
IsTypedText origin rtype class words octets = (layout : TextLayout) × (layout_of rtype class ≡ Some layout)
    × IsLayoutText origin layout.fields layout.tail words octets

-- the words are opaque data, or don't begin so and are typed data
abbrev pub IsDataText : Option (List (List ℕ)) → ℕ → ℕ → List (List ℕ) → List ℕ → Type 0
IsDataText origin rtype class words octets =
    IsOpaqueText words octets ⊎ (IsNotOpaque words × IsTypedText origin rtype class words octets)

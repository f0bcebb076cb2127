-- The text of data in the layout of its type.
use Rattle.std.specs.Prelude.{◌≡◌, ℕ, Option, List, [], ◌∷◌, ◌++◌}
use Rattle.octseq_dns_data.specs.declared.layout.Field.{Field}
use Rattle.octseq_dns_data.specs.declared.layout.Tail.{Tail}
use Rattle.octseq_dns_text.specs.Fields.{IsFieldText}
use Rattle.octseq_dns_text.specs.Tails.{IsTailText}
pub use Rattle.octseq_dns_data.specs.Layout.{TextLayout, layout_value}
unfoldable pub use Rattle.octseq_dns_data.specs.Typed.{layout_of}

-- the words are fields, each of them one word, and then what comes after them
abbrev pub IsLayoutText : Option (List (List ℕ)) → List Field → Tail → List (List ℕ) → List ℕ → Type 0
IsLayoutText origin [] tail words octets = IsTailText tail words octets
IsLayoutText origin (field ∷ fields) tail words octets =
    (word : List ℕ) × (more : List (List ℕ)) × (first rest : List ℕ) × (words ≡ word ∷ more)
    × IsFieldText origin field word first × IsLayoutText origin fields tail more rest × (octets ≡ first ++ rest)

-- The words of tails: what comes after the fields of data, up to the end of its text.
use Rattle.std.specs.Prelude.{◌≡◌, ℕ, ◌≤◌, Bool, true, false, List, [], ◌∷◌, ◌++◌, length}
use Rattle.octseq_dns_data.specs.declared.layout.Tail.{Tail}
use Rattle.octseq_dns_data.specs.declared.layout.Tail.TheVariants as tail
use Rattle.octseq_dns_scan.specs.Base64.{IsBase64Text}
use Rattle.octseq_dns_scan.specs.Hex.{IsHexText}
use Rattle.octseq_dns_scan.specs.Spelled.{SpellsString}
use Rattle.octseq_dns_text.specs.ParamsText.{IsParamsText}
use Rattle.octseq_dns_text.specs.Runs.{AreRuns}
use Rattle.octseq_dns_text.specs.Scans.{AreSome}
use Rattle.octseq_dns_text.specs.TypesText.{IsTypesText}
use Rattle.octseq_dns_text.specs.Words.{IsStringWord}

-- no word
abbrev pub IsNoWord : List (List ℕ) → List ℕ → Type 0
IsNoWord words octets = (words ≡ []) × (octets ≡ [])

-- one word, a string of so many octets or more
abbrev pub IsLongString : ℕ → List (List ℕ) → List ℕ → Type 0
IsLongString least words octets =
    (word : List ℕ) × (words ≡ word ∷ []) × SpellsString octets word × (least ≤ length octets)

-- character strings
abbrev pub AreStrings : List (List ℕ) → List ℕ → Type 0
AreStrings [] octets = octets ≡ []
AreStrings (word ∷ words) octets = (first rest : List ℕ) × IsStringWord word first × AreStrings words rest
    × (octets ≡ first ++ rest)

-- the words are a tail of these octets
abbrev pub IsTailText : Tail → List (List ℕ) → List ℕ → Type 0
IsTailText tail.Nothing words octets = IsNoWord words octets
IsTailText tail.Value words octets = IsLongString 0 words octets
IsTailText tail.Target words octets = IsLongString 1 words octets
IsTailText tail.Strings words octets = AreSome AreStrings words octets
IsTailText tail.Hex words octets = AreSome (AreRuns IsHexText) words octets
IsTailText tail.Base64 words octets = AreSome (AreRuns IsBase64Text) words octets
IsTailText tail.Types words octets = IsTypesText words octets
IsTailText tail.Params words octets = IsParamsText words octets

-- whether a tail is collected in a list, before its octets are made
abbrev pub has_list : Tail → Bool
has_list tail.Types = true
has_list tail.Params = true
has_list _ = false

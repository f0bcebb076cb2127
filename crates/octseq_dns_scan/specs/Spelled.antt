-- The octets that a word spells as a string: RFC 1035, 5.1. A semicolon is 59, a backslash 92.
use Rattle.std.specs.Prelude.{◌≡◌, ℕ, ◌+◌, ◌<◌, ◌≤◌, ◌==◌, Bool, true, false, ◌||◌, Option, List, [], ◌∷◌, ◌++◌}
use Rattle.std.specs.Prelude.{length, codes}
use Rattle.std.specs.Char.{is_ascii_digit}
use Rattle.octseq.specs.Limit.{IsWithin, ExceedsLimit}
use Rattle.octseq.specs.OctetsText.{three_digits}
use Rattle.octseq_dns_scan.specs.Word.{is_special, is_special_in_quotes}
use Rattle.octseq_dns_scan.specs.declared.string.StringError.{StringError}

-- Whether an octet doesn't spell itself in a string: between quotation marks, and without them. There a semicolon
-- begins a comment.
abbrev pub is_special_in_string : Bool → ℕ → Bool
is_special_in_string true octet = is_special_in_quotes octet
is_special_in_string false octet = octet == 59 || is_special octet

-- An octet: as itself, if it isn't special; after a backslash, if it isn't a digit; or as a backslash and its number.
pub data SpellsOctetBut (special : ℕ → Bool) : ℕ → List ℕ → Type 0 where
  plain : {octet : ℕ} → special octet ≡ false → SpellsOctetBut special octet (octet ∷ [])
  escaped : {octet : ℕ} → is_ascii_digit octet ≡ false → SpellsOctetBut special octet (92 ∷ octet ∷ [])
  numbered : {octet : ℕ} → octet < 256 → SpellsOctetBut special octet (92 ∷ three_digits octet)

-- octets, one after another
abbrev pub SpellsOctets : (ℕ → Bool) → List ℕ → List ℕ → Type 0
SpellsOctets special [] text = text ≡ []
SpellsOctets special (octet ∷ octets) text = (first rest : List ℕ) × (text ≡ first ++ rest)
    × SpellsOctetBut special octet first × SpellsOctets special octets rest

-- a string: octets between quotation marks, or without them
pub data SpellsString (octets word : List ℕ) : Type 0 where
  quoted : (inside : List ℕ) → word ≡ 34 ∷ inside ++ 34 ∷ [] → SpellsOctets (is_special_in_string true) octets inside
      → SpellsString octets word
  bare : 1 ≤ length word → SpellsOctets (is_special_in_string false) octets word → SpellsString octets word

-- a word spells a string of this many octets at most
abbrev pub SpellsWithin : Option ℕ → List ℕ → List ℕ → Type 0
SpellsWithin max octets word = SpellsString octets word × IsWithin max (length octets)

-- Why a string isn't appended to octets: the word spells none; it spells one that is too long; the octets would exceed
-- their limit with it; or a request for memory was refused.
abbrev pub IsUnscanned : StringError → Option ℕ → Option ℕ → Bool → List ℕ → List ℕ → Type 0
IsUnscanned StringError.Malformed max limit asks word old = (octets : List ℕ) → ¬ SpellsString octets word
IsUnscanned StringError.TooLong max limit asks word old =
    (octets : List ℕ) × SpellsString octets word × ExceedsLimit max (length octets)
IsUnscanned StringError.Short max limit asks word old =
    (octets : List ℕ) × SpellsWithin max octets word × ExceedsLimit limit (length old + length octets)
IsUnscanned StringError.Memory max limit asks word old =
    (octets : List ℕ) × SpellsWithin max octets word × IsWithin limit (length old + length octets) × (asks ≡ true)

abbrev pub string_error_text : StringError → List ℕ
string_error_text StringError.Malformed = codes "malformed string"
string_error_text StringError.TooLong = codes "long string"
string_error_text StringError.Short = codes "buffer size exceeded"
string_error_text StringError.Memory = codes "out of memory"

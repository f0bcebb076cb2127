-- The words of a text: RFC 1035, 5.1. A tab is 9, a line feed 10, a carriage return 13, a space 32, a quotation mark
-- 34, and a backslash 92.
use Rattle.std.specs.Prelude.{◌≡◌, ◌⊎◌, ℕ, ◌≤◌, ◌==◌, Bool, true, false, ◌||◌, List, [], ◌∷◌, ◌++◌, length}
use Rattle.std.specs.Char.{char_set_contains}
use Rattle.std.specs.List.{AllByRecursion}
use Rattle.octseq_dns_scan.specs.Made.{IsMade}

-- whether an octet separates words
abbrev pub is_blank : ℕ → Bool
is_blank octet = octet == 9 || octet == 32

-- whether an octet doesn't stand for itself in a word: outside quotation marks, and within them
abbrev pub is_special : ℕ → Bool
is_special = char_set_contains (9 ∷ 10 ∷ 13 ∷ 32 ∷ 34 ∷ 92 ∷ [])

abbrev pub is_special_in_quotes : ℕ → Bool
is_special_in_quotes = char_set_contains (34 ∷ 92 ∷ [])

-- a piece: an octet that isn't special, or a backslash and any octet
pub data IsPieceBut (special : ℕ → Bool) : List ℕ → Type 0 where
  plain : {octet : ℕ} → special octet ≡ false → IsPieceBut special (octet ∷ [])
  escaped : {octet : ℕ} → IsPieceBut special (92 ∷ octet ∷ [])

abbrev pub IsWordPiece : List ℕ → Type 0
IsWordPiece = IsPieceBut is_special

abbrev pub IsQuotedPiece : List ℕ → Type 0
IsQuotedPiece = IsPieceBut is_special_in_quotes

-- pieces between quotation marks
abbrev pub IsQuotedPart : List ℕ → Type 0
IsQuotedPart text = (inside : List ℕ) × IsMade IsQuotedPiece inside × (text ≡ 34 ∷ inside ++ 34 ∷ [])

abbrev pub IsWordPart : List ℕ → Type 0
IsWordPart text = IsWordPiece text ⊎ IsQuotedPart text

-- a word: one or more pieces and quoted parts
abbrev pub IsWord : List ℕ → Type 0
IsWord text = (1 ≤ length text) × IsMade IsWordPart text

-- what follows a word: the end, or a blank
abbrev pub EndsWord : List ℕ → Type 0
EndsWord [] = Unit {0}
EndsWord (octet ∷ rest) = is_blank octet ≡ true

-- what follows the pieces of a quoted part
abbrev pub BeginsWithQuote : List ℕ → Type 0
BeginsWithQuote text = (rest : List ℕ) × (text ≡ 34 ∷ rest)

-- what follows the blanks after a word: the end, or no blank
abbrev pub BeginsNoBlank : List ℕ → Type 0
BeginsNoBlank [] = Unit {0}
BeginsNoBlank (octet ∷ rest) = is_blank octet ≡ false

-- all blanks at the front of a text, and what is left after them
abbrev pub SplitsBlanks : List ℕ → List ℕ → List ℕ → Type 0
SplitsBlanks blanks text rest =
    AllByRecursion (λ octet. is_blank octet ≡ true) blanks × (text ≡ blanks ++ rest) × BeginsNoBlank rest

-- A text begins with a word, followed by blanks, one or more unless the text ends with the word, and by what is left.
abbrev pub TakesWord : List ℕ → List ℕ → List ℕ → Type 0
TakesWord word text rest = (blanks after : List ℕ) × IsWord word × (text ≡ word ++ after) × EndsWord after
    × SplitsBlanks blanks after rest

-- a text is these words, and the blanks after them
abbrev pub AreWords : List (List ℕ) → List ℕ → Type 0
AreWords [] text = text ≡ []
AreWords (word ∷ words) text = (rest : List ℕ) × TakesWord word text rest × AreWords words rest

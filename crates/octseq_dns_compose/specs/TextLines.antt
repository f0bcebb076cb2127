-- The lines of a text, each ended by a line feed (10).
use Rattle.std.specs.Prelude.{◌≡◌, ◌⊎◌, ℕ, ◌+◌, Option, List, [], ◌∷◌, ◌++◌, length}
use Rattle.std.specs.List.{AllByRecursion}
use Rattle.octseq.specs.Limit.{ExceedsLimit}
use Rattle.octseq_dns_scan.specs.Word.{AreWords, TakesWord}
use Rattle.octseq_dns_text.specs.Scans.{IsWordFault}
use Rattle.octseq_dns_message.specs.declared.header.Header.{Header}
use Rattle.octseq_dns_compose.specs.HeaderLine.{IsHeaderLine}

-- octets of a line
abbrev pub IsLine : List ℕ → Type 0
IsLine line = AllByRecursion (λ octet. ¬ (octet ≡ 10)) line

-- what follows the octets of a line: a line feed, or the end of the text
abbrev pub EndsLine : List ℕ → Type 0
EndsLine [] = Unit {0}
EndsLine (octet ∷ rest) = octet ≡ 10

-- a text begins with a line of these words, followed by what is left
abbrev pub TakesLine : List (List ℕ) → List ℕ → List ℕ → Type 0
TakesLine words text rest = (line : List ℕ) × (text ≡ line ++ 10 ∷ rest) × IsLine line × AreWords words line

-- a text consists of such lines
abbrev pub AreLines : List (List (List ℕ)) → List ℕ → Type 0
AreLines [] text = text ≡ []
AreLines (words ∷ lines) text = (rest : List ℕ) × TakesLine words text rest × AreLines lines rest

-- a text begins with such lines
abbrev pub BeginsWithLines : List (List (List ℕ)) → List ℕ → List ℕ → Type 0
BeginsWithLines [] text rest = text ≡ rest
BeginsWithLines (words ∷ lines) text rest =
    (after : List ℕ) × TakesLine words text after × BeginsWithLines lines after rest

-- Of what is left of a text, this is the first line, with what follows its octets.
pub record SplitsLines (text line after : List ℕ) : Type 0 where
  pub whole : text ≡ line ++ after
  pub is_line : IsLine line
  pub ends : EndsLine after

-- some text that begins with these lines goes on with a line of these words
abbrev pub IsNextLine : (List (List (List ℕ)) → Type 0) → List (List (List ℕ)) → List (List ℕ) → List ℕ → Type 0
IsNextLine Is front words octets = (others : List (List (List ℕ))) × Is (front ++ words ∷ others)

-- a line is whole, but no line feed ends it
pub record IsUnended (IsWords : List (List ℕ) → List ℕ → Type 0) (line after : List ℕ) (start offset : ℕ)
    : Type 0 where
  pub words : List (List ℕ)
  pub octets : List ℕ
  pub are : AreWords words line
  pub is : IsWords words octets
  pub ends : after ≡ []
  pub place : offset ≡ start + length line

-- A text of lines is none: this is the number of the first line that isn't what has to come there, and the offset in it
-- of the first word that isn't. The end of a line counts as a word, and so does the end of the text. `Is lines`: the
-- lines are a text. Its first line has the number `first`.
pub record IsLineFault (Is : List (List (List ℕ)) → Type 0) (text : List ℕ) (first number offset : ℕ) : Type 0 where
  -- the lines before it
  pub front : List (List (List ℕ))
  -- its octets, and what follows them
  pub line : List ℕ
  pub after : List ℕ
  pub begins : BeginsWithLines front text (line ++ after)
  pub is_line : IsLine line
  pub ended : EndsLine after
  pub place : number ≡ first + length front
  -- no text goes on with it, or it has no line feed
  pub fault : IsWordFault (IsNextLine Is front) line 0 offset ⊎ IsUnended (IsNextLine Is front) line after 0 offset
  -- the text doesn't end before it
  pub ends : line ++ after ≡ [] → ¬ Is front

-- A line begins with a word, and what follows it is no text, or no line feed ends it. `Is words octets`: the words
-- after the first are a text.
pub record IsFaultyLine (first : List ℕ) (Is : List (List ℕ) → List ℕ → Type 0) (text : List ℕ) (offset : ℕ)
    : Type 0 where
  pub line : List ℕ
  pub after : List ℕ
  pub split : SplitsLines text line after
  pub rest : List ℕ
  pub start : ℕ
  pub taken : TakesWord first line rest
  pub place : start + length rest ≡ length line
  pub fault : IsWordFault Is rest start offset ⊎ IsUnended Is rest after start offset

-- A line begins with a word, and what follows it is a text of more octets than a limit.
pub record IsLongLine (first : List ℕ) (Is : List (List ℕ) → List ℕ → Type 0) (limit : Option ℕ) (text : List ℕ)
    : Type 0 where
  pub line : List ℕ
  pub after : List ℕ
  pub split : SplitsLines text line after
  pub rest : List ℕ
  pub taken : TakesWord first line rest
  pub words : List (List ℕ)
  pub octets : List ℕ
  pub are : AreWords words rest
  pub is : Is words octets
  pub past : ExceedsLimit limit (length octets)

-- the first line of a text doesn't begin with a word
abbrev pub IsNoneOf : List ℕ → List ℕ → Type 0
IsNoneOf first text = (line after rest : List ℕ) → SplitsLines text line after → ¬ TakesWord first line rest

-- The first line of a text is that of no header, or no line feed ends it.
pub record IsFaultyHeader (text : List ℕ) (offset : ℕ) : Type 0 where
  pub line : List ℕ
  pub after : List ℕ
  pub split : SplitsLines text line after
  pub fault : IsWordFault (λ words octets. (h : Header) × IsHeaderLine h words) line 0 offset
      ⊎ IsUnended (λ words octets. (h : Header) × IsHeaderLine h words) line after 0 offset

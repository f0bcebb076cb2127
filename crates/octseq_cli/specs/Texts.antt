-- Texts of an input, with empty lines between them, and what a command makes of them. A line feed is 10.
use Rattle.std.specs.List.{AllByRecursion}
use Rattle.std.specs.Prelude.{◌≡◌, ℕ, ◌≤◌, List, [], ◌∷◌, ◌++◌, length, Bool, true, false}
use Rattle.octseq_cli.specs.Frames.{HavePieces, ends_as}
use Rattle.octseq_cli.specs.declared.status.Status.{Status}

-- empty lines: line feeds alone
abbrev pub AreFeeds : List ℕ → Type 0
AreFeeds = AllByRecursion (λ octet. octet ≡ 10)

-- no line feed follows another one right away; `before` is the octet before the first
abbrev pub NoneDouble : ℕ → List ℕ → Type 0
NoneDouble before [] = Unit {0}
NoneDouble before (octet ∷ rest) = (before ≡ 10 → ¬ (octet ≡ 10)) × NoneDouble octet rest

-- the last of some octets, or the octet before them if there are none
abbrev pub last_of : ℕ → List ℕ → ℕ
last_of before [] = before
last_of before (octet ∷ rest) = last_of octet rest

-- lines, none of which is empty: as a line begins with them, no line feed comes first
abbrev pub AreFilledLines : List ℕ → Type 0
AreFilledLines = NoneDouble 10

-- a text: one or more such lines
abbrev pub IsLineText : List ℕ → Type 0
IsLineText text = (1 ≤ length text) × AreFilledLines text

-- a line feed ends the last line of a text
abbrev pub EndsWithLineFeed : List ℕ → Type 0
EndsWithLineFeed text = last_of 10 text ≡ 10

-- what follows a text: the end of the input, or an empty line
abbrev pub EndsText : List ℕ → List ℕ → Type 0
EndsText text [] = Unit {0}
EndsText text (octet ∷ rest) = EndsWithLineFeed text × (octet ≡ 10)

-- an input consists of texts, with any number of empty lines before and after them, and one at least between them
abbrev pub AreTexts : List (List ℕ) → List ℕ → Type 0
AreTexts [] input = AreFeeds input
AreTexts (text ∷ texts) input = (feeds : List ℕ) × (rest : List ℕ) × AreFeeds feeds × IsLineText text
    × EndsText text rest
    × (input ≡ feeds ++ (text ++ rest)) × AreTexts texts rest

-- What is read of an input up to the end of its next text: the empty lines before it, the text, and the empty line that
-- ends it; or, where the input is over, the text that it ends with, or none.
abbrev pub IsNextText : Bool → List ℕ → List ℕ → Type 0
IsNextText false text read = (feeds : List ℕ) × AreFeeds feeds × IsLineText text × EndsWithLineFeed text
    × (read ≡ feeds ++ (text ++ 10 ∷ []))
IsNextText true text read = (feeds : List ℕ) × AreFeeds feeds × AreFilledLines text × (read ≡ feeds ++ text)

-- An input consists of texts. This is made of them, counted from 1.
pub record IsTextsOut (IsPiece : ℕ → List ℕ → Bool → List ℕ → List ℕ → Type 0) (input output errors : List ℕ)
    (status : Status) : Type 0 where
  pub texts : List (List ℕ)
  pub are : AreTexts texts input
  pub all : Bool
  pub pieces : HavePieces IsPiece 1 texts all output errors
  pub status_is : status ≡ ends_as all

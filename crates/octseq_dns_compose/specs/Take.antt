-- A word taken from the front of a text, and words one after another.
use Rattle.std.specs.Prelude.{◌≡◌, ℕ, ◌≤◌, Bool, true, false, Option, List, [], ◌∷◌, IfSome, IfNone, IsNone}
use Rattle.std.specs.Str.Parse.{IsNumeral, digits_value}
use Rattle.octseq_dns_scan.specs.Word.{TakesWord, AreWords}
use Rattle.octseq_dns_text.specs.Scans.{IsWordFault}

-- The next word is read, or it isn't what has to come there, and the text stays. `Is value word`: the word is a text of
-- the value.
pub record TakesNextWord {A : Type 0} (Is : A → List ℕ → Type 0) (result : Option A)
    (ahead after : List ℕ) : Type 0 where
  pub some : IfSome result (λ value. (word : List ℕ) × TakesWord word ahead after × Is value word)
  pub none : IsNone result → (word rest : List ℕ) (value : A) → TakesWord word ahead rest → ¬ Is value word
  pub kept : IfNone result (after ≡ ahead)

-- a given word is the next one, and is taken, or it isn't, and the text stays
abbrev pub IsTaken : List ℕ → Bool → List ℕ → List ℕ → Type 0
IsTaken word true ahead after = TakesWord word ahead after
IsTaken word false ahead after = (after ≡ ahead) × ((rest : List ℕ) → ¬ TakesWord word ahead rest)

-- a word is a number in decimal digits, of at most `most`
abbrev pub IsUpTo : ℕ → ℕ → List ℕ → Type 0
IsUpTo most number word = IsNumeral 10 word × (digits_value 10 word ≡ number) × (number ≤ most)

-- a word is the given one
abbrev pub IsGiven : List ℕ → List ℕ → Type 0
IsGiven wanted word = word ≡ wanted

-- a first word, and then the others
abbrev pub Then : (List ℕ → Type 0) → (List (List ℕ) → Type 0) → List (List ℕ) → Type 0
Then Is Rest [] = ⊥
Then Is Rest (word ∷ words) = Is word × Rest words

-- All words of a text are read, or none go on so from the place `place`. `Is value words`: the words are a text of the
-- value.
pub record ReadsAllWords {A : Type 0} (Is : A → List (List ℕ) → Type 0) (result : Option A) (ahead : List ℕ)
    (start place : ℕ) : Type 0 where
  pub some : IfSome result (λ value. (words : List (List ℕ)) × AreWords words ahead × Is value words)
  pub none : IsNone result → IsWordFault (λ words octets. (value : A) × Is value words) ahead start place

-- Octets that may not be text, in parts: characters, and maximal subparts that are ill-formed.
use Rattle.std.specs.Prelude.{◌≡◌, ◌≢◌, ℕ, ◌≤◌, ◌⊎◌, List, [], ◌∷◌, ◌++◌, length}
use Rattle.std.specs.List.{flat_map}
use Rattle.octseq_utf8.specs.Encoding.{IsEncoding, number_of, encoding_of}

-- The octets begin with the front.
abbrev pub StartsWith : List ℕ → List ℕ → Type 0
StartsWith front octets = (rest : List ℕ) × (octets ≡ front ++ rest)

-- A nonempty front of an encoding that isn't the whole of it.
pub record IsBeginning (octets : List ℕ) : Type 0 where
  pub more : List ℕ
  pub some : octets ≢ []
  pub proper : more ≢ []
  pub encoding : IsEncoding (octets ++ more)

-- The bad part of octets of which no front is an encoding: the longest front that is a beginning, or the first octet if
-- none is.
pub record IsBadPart (octets bad : List ℕ) : Type 0 where
  pub front : StartsWith bad octets
  pub none : (e : List ℕ) → StartsWith e octets → ¬ IsEncoding e
  pub longest : (IsBeginning bad × ((other : List ℕ) → StartsWith other octets → IsBeginning other
      → length other ≤ length bad))
      ⊎ ((length bad ≡ 1) × ((other : List ℕ) → StartsWith other octets → ¬ IsBeginning other))

-- A part: a character by its number, or a bad part by its octets.
pub data Part : Type 0 where
  Char : ℕ → Part
  Bad : List ℕ → Part

-- How octets split into parts, from the left: an encoding if one begins there, otherwise the bad part.
pub data Splits : List ℕ → List Part → Type 0 where
  nothing : Splits [] []
  encoding : {e rest : List ℕ} {parts : List Part} → IsEncoding e → Splits rest parts
      → Splits (e ++ rest) (Char (number_of e) ∷ parts)
  bad_part : {bad rest : List ℕ} {parts : List Part} → IsBadPart (bad ++ rest) bad → Splits rest parts
      → Splits (bad ++ rest) (Bad bad ∷ parts)

-- The text of parts, with a character in place of each bad part.
abbrev pub octets_with : ℕ → Part → List ℕ
octets_with replacement (Char c) = encoding_of c
octets_with replacement (Bad bad) = encoding_of replacement

abbrev pub text_with : ℕ → List Part → List ℕ
text_with replacement parts = flat_map (octets_with replacement) parts

-- The lossy text of parts, with U+FFFD, the replacement character, which is EF BF BD.
abbrev pub text : List Part → List ℕ
text parts = text_with 0xFFFD parts

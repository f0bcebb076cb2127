-- Octets as text.
use Rattle.std.specs.Prelude.{◌≡◌, ℕ, Bool, false, List, [], ◌∷◌, ◌++◌, map, length, if◌then◌else◌}
use Rattle.std.specs.Int.{is_in_range}
use Rattle.std.specs.List.{concat, flat_map, AllByRecursion}
use Rattle.octseq_utf8.specs.Encoding.{IsEncoding, number_of, encoding_of}

-- The octets are encodings, one after another, and the characters are their numbers.
pub record Spells (octets characters : List ℕ) : Type 0 where
  pub encodings : List (List ℕ)
  pub each : AllByRecursion IsEncoding encodings
  pub joined : concat encodings ≡ octets
  pub numbers : map number_of encodings ≡ characters

-- The octets are encodings, one after another.
abbrev pub IsWellFormed : List ℕ → Type 0
IsWellFormed octets = (characters : List ℕ) × Spells octets characters

-- Whether the octets begin within an encoding: with one of 80..BF, with which no encoding begins.
abbrev pub begins_within : List ℕ → Bool
begins_within [] = false
begins_within (b ∷ octets) = is_in_range 0x80 0xBF b

-- An octet put in front of the first group.
abbrev pub put_in_front : ℕ → List (List ℕ) → List (List ℕ)
put_in_front a [] = (a ∷ []) ∷ []
put_in_front a (group ∷ groups) = (a ∷ group) ∷ groups

-- The encodings of well-formed octets: cut wherever the rest doesn't begin within one.
unfoldable pub encodings_in : List ℕ → List (List ℕ)
encodings_in [] = []
encodings_in (a ∷ octets) =
    if begins_within octets then put_in_front a (encodings_in octets) else (a ∷ []) ∷ encodings_in octets

-- The characters of well-formed octets.
abbrev pub chars : List ℕ → List ℕ
chars octets = map number_of (encodings_in octets)

-- The octets of characters: their encodings, one after another.
abbrev pub octets_of : List ℕ → List ℕ
octets_of characters = flat_map encoding_of characters

-- The first of some characters, those that take exactly n octets.
pub record IsFrontOf (characters : List ℕ) (n : ℕ) (front : List ℕ) : Type 0 where
  pub rest : List ℕ
  pub joined : characters ≡ front ++ rest
  pub long : length (octets_of front) ≡ n

-- Whole characters make exactly the first n octets.
abbrev pub IsBoundary : List ℕ → ℕ → Type 0
IsBoundary octets n = (front : List ℕ) × IsFrontOf (chars octets) n front

-- The octets are a text followed by the encoding of one more character.
pub record EndsWithCharacter (octets : List ℕ) (c : ℕ) : Type 0 where
  pub before : List ℕ
  pub text : IsWellFormed before
  pub whole : octets ≡ before ++ encoding_of c
  pub characters : chars octets ≡ chars before ++ c ∷ []

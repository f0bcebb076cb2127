-- Octets in chunks: each is a text, and the bad part after it.
use Rattle.std.specs.Prelude.{◌≡◌, ◌≢◌, ℕ, Bool, ◌⊎◌, ◌↔◌, IsTrue, List, [], ◌∷◌, ◌++◌, map, Option, MatchOption}
use Rattle.octseq_utf8.specs.Encoding.{encoding_of}
use Rattle.octseq_utf8.specs.Parts.{IsBeginning, IsBadPart, Part, Char, Bad}
use Rattle.octseq_utf8.specs.Text.{IsWellFormed, chars}

-- A text, the bad part after it, and whether that part is a character cut off by the end of the octets.
pub record Chunk : Type 0 where
  pub valid : List ℕ
  pub invalid : List ℕ
  pub incomplete : Bool

-- The first chunk of octets, and what is left after it. Only the last chunk can have no bad part.
pub record IsFirstChunk (octets : List ℕ) (chunk : Chunk) (after : List ℕ) : Type 0 where
  pub whole : octets ≡ chunk.valid ++ (chunk.invalid ++ after)
  pub some : octets ≢ []
  pub good : IsWellFormed chunk.valid
  pub bad : ((chunk.invalid ≡ []) × (after ≡ [])) ⊎ IsBadPart (chunk.invalid ++ after) chunk.invalid
  pub cut : IsTrue chunk.incomplete ↔ (IsBeginning chunk.invalid × (after ≡ []))

-- A call that started with these octets left returned a chunk, or none if nothing was left, and left those after it.
abbrev pub GivesChunk : List ℕ → Option Chunk → List ℕ → Type 0
GivesChunk octets result after =
    MatchOption result ((octets ≡ []) × (after ≡ [])) (λ chunk. IsFirstChunk octets chunk after)

-- All chunks of octets, from the left.
pub data AreChunks : List ℕ → List Chunk → Type 0 where
  no_chunk : AreChunks [] []
  first_chunk : {octets after : List ℕ} {chunk : Chunk} {chunks : List Chunk}
      → IsFirstChunk octets chunk after → AreChunks after chunks → AreChunks octets (chunk ∷ chunks)

-- The parts of a chunk: its characters, and its bad part if it has one.
abbrev pub bad_parts : List ℕ → List Part
bad_parts [] = []
bad_parts (octet ∷ octets) = Bad (octet ∷ octets) ∷ []

abbrev pub chunk_parts : Chunk → List Part
chunk_parts chunk = map Char (chars chunk.valid) ++ bad_parts chunk.invalid

-- What replaces a bad part: a mark, or nothing if there is no bad part.
abbrev pub mark_of : List ℕ → List ℕ → List ℕ
mark_of mark [] = []
mark_of mark (octet ∷ octets) = mark

-- The text of a chunk, with a character in place of its bad part.
abbrev pub chunk_text : ℕ → Chunk → List ℕ
chunk_text replacement chunk = chunk.valid ++ mark_of (encoding_of replacement) chunk.invalid

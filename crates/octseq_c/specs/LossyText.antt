-- Octets as text, for C.
use Rattle.std.specs.Prelude.{◌≡◌, ◌≤◌, ◌⊎◌, ℕ, zero, suc, Option, Some, None, List, [], ◌∷◌, ◌++◌, take}
use Rattle.octseq.specs.Encoding.{encoding_of}
use Rattle.octseq.specs.Parts.{IsBeginning, Part, Splits, text}
use Rattle.octseq.specs.Pieces.{Settles}
use Rattle.octseq_c.specs.declared.pieces.LossyState.{LossyState}

-- the size of a fault as C sees it: 0 if the octets end within a character
abbrev pub size_reported : ℕ → Option ℕ
size_reported zero = None
size_reported (suc n) = Some (suc n)

-- the lossy text of octets
abbrev pub IsLossyText : List ℕ → List ℕ → Type 0
IsLossyText octets made = (parts : List Part) × Splits octets parts × (made ≡ text parts)

-- the text of what is settled in octets, whatever follows them
abbrev pub IsSettledText : List ℕ → List ℕ → Type 0
IsSettledText octets made = (settled : List Part) × (end : List ℕ) × Settles octets settled end × (made ≡ text settled)

-- the octets that a state holds
abbrev pub held : LossyState → List ℕ
held state = take state.len state.octets

-- It is a valid state: it holds nothing, or the beginning of a character.
abbrev pub IsState : LossyState → Type 0
IsState state = (state.len ≤ 3) × ((held state ≡ []) ⊎ IsBeginning (held state))

-- the text of what is held if nothing follows
abbrev pub end_text : List ℕ → List ℕ
end_text [] = []
end_text (octet ∷ octets) = encoding_of 0xFFFD

-- The texts of pieces, one after another, and of what is left after the last, given the octets that were held before.
abbrev pub IsTextOfPieces : List ℕ → List (List ℕ) → List ℕ → Type 0
IsTextOfPieces held [] made = made ≡ end_text held
IsTextOfPieces held (piece ∷ pieces) made = (settled : List Part) × (end : List ℕ) × (more : List ℕ)
    × Settles (held ++ piece) settled end × IsTextOfPieces end pieces more × (made ≡ text settled ++ more)

-- What a command makes of a stream: of its frames, one after another, and of its end.
use Rattle.std.specs.List.{AllByRecursion, flat_map}
use Rattle.std.specs.Fmt.{decimal}
use Rattle.std.specs.Prelude.{◌≡◌, codes, ℕ, ◌+◌, List, [], ◌∷◌, ◌++◌, Bool, true, false, ◌&&◌, length}
use Rattle.std.specs.Prelude.{Option, Result, Ok, Err}
use Rattle.std.specs.Io.KnownBytes.{Appends}
use Rattle.octseq_cli.specs.Run.{IsPartWritten}
use Rattle.octseq_cli.specs.declared.frames.Ending.{Ending}
use Rattle.octseq_cli.specs.declared.frames.Ending.TheVariants.{Whole, Cut, Misframed}
use Rattle.octseq_cli.specs.declared.status.ProgramFault.{ProgramFault}
use Rattle.octseq_cli.specs.declared.status.ProgramFault.TheVariants.{Note}
use Rattle.octseq_cli.specs.declared.status.Status.{Status}
use Rattle.octseq_cli.specs.declared.status.Status.TheVariants.{Fine, Refused}

-- What is made of octets and their number in the stream: whether they are valid, the output, and the note on standard
-- error. `IsPiece` is such a relation here.

-- the same for frames, where the first one has this number
abbrev pub HavePieces : (ℕ → List ℕ → Bool → List ℕ → List ℕ → Type 0) → ℕ → List (List ℕ) → Bool → List ℕ → List ℕ
    → Type 0
HavePieces IsPiece number [] all output errors = (all ≡ true) × (output ≡ []) × (errors ≡ [])
HavePieces IsPiece number (octets ∷ frames) all output errors = (is_fine : Bool) × (written : List ℕ)
    × (note : List ℕ) × (others : Bool) × (more : List ℕ) × (notes : List ℕ)
    × IsPiece number octets is_fine written note × HavePieces IsPiece (number + 1) frames others more notes
    × (all ≡ (is_fine && others)) × (output ≡ written ++ more) × (errors ≡ note ++ notes)

-- how a command ends, by whether everything is valid
abbrev pub ends_as : Bool → Status
ends_as true = Fine
ends_as false = Refused

-- the same with the notes: if not all were written, that is a fault
abbrev pub ended_as : Bool → Bool → Result Status ProgramFault
ended_as all true = Ok (ends_as all)
ended_as all false = Err Note

-- A note after others, of which all were written in full or not. It is written then, in full or a front of it;
-- otherwise nothing is.
abbrev pub IsNoted : Bool → Bool → List ℕ → Option (List ℕ) → Option (List ℕ) → Type 0
IsNoted true all note before after = (part : List ℕ) × IsPartWritten all part note × Appends before after part
IsNoted false all note before after = (all ≡ false) × Appends before after []

-- What is made of an input as one item.
pub record IsWholeOut (IsPiece : List ℕ → Bool → List ℕ → List ℕ → Type 0) (input output errors : List ℕ)
    (status : Status) : Type 0 where
  pub is_fine : Bool
  pub piece : IsPiece input is_fine output errors
  pub status_is : status ≡ ends_as is_fine

-- A stream is frames that fit, each written by a code, and a rest. This is made of the frames, counted from 1, and of
-- the rest, which has the number after theirs. `IsEnd` says that no frame is at the front of the rest.
pub record IsStreamOut (Fits : List ℕ → Type 0) (code : List ℕ → List ℕ)
    (IsPiece IsEnd : ℕ → List ℕ → Bool → List ℕ → List ℕ → Type 0) (input output errors : List ℕ) (status : Status)
    : Type 0 where
  pub frames : List (List ℕ)
  pub rest : List ℕ
  pub fit : AllByRecursion Fits frames
  pub whole : input ≡ flat_map code frames ++ rest
  pub all : Bool
  pub text : List ℕ
  pub notes : List ℕ
  pub pieces : HavePieces IsPiece 1 frames all text notes
  pub is_fine : Bool
  pub ending : List ℕ
  pub note : List ℕ
  pub ends : IsEnd (1 + length frames) rest is_fine ending note
  pub written : output ≡ text ++ ending
  pub noted : errors ≡ notes ++ note
  pub status_is : status ≡ ends_as (all && is_fine)

-- What is made of a rest without a note: if it is empty, all is valid; otherwise it is a part of a frame, and `text` is
-- written.
abbrev pub IsPlainEnd : (List ℕ → Type 0) → List ℕ → List ℕ → Bool → List ℕ → List ℕ → Type 0
IsPlainEnd IsCut text rest true ending note = (rest ≡ []) × (ending ≡ []) × (note ≡ [])
IsPlainEnd IsCut text rest false ending note = IsCut rest × (ending ≡ text) × (note ≡ [])

-- a rest that is empty, or a part of a frame
abbrev pub IsPlainRest : (List ℕ → Type 0) → Ending → List ℕ → Type 0
IsPlainRest IsCut Whole rest = rest ≡ []
IsPlainRest IsCut Cut rest = IsCut rest
IsPlainRest IsCut Misframed rest = ⊥

-- the line that reports where reading of a numbered item stopped
abbrev pub stop_line : List ℕ → ℕ → ℕ → List ℕ
stop_line what number offset =
    what ++ codes " " ++ decimal number ++ codes ": malformed at octet " ++ decimal offset ++ codes "\n"

-- What is settled in octets, whatever follows them: the length of its text, and whether there is room for it. Contracts
-- for C don't refer to it.
use Rattle.std.specs.Prelude.{◌≡◌, ℕ, ◌+◌, ◌-◌, ◌<◌, ◌≤◌, ◌^◌, Option, Some, None, List, [], length}
use Rattle.octseq.specs.Parts.{IsBeginning, Part, text}
use Rattle.octseq.specs.Pieces.{Settles}
use Rattle.octseq_text.specs.Progress.{Completes}
use Rattle.octseq_text.specs.declared.completion.Completed.{Completed}

-- After `before` octets of text, the text of what is settled ends at `offset`, and this is the open end.
pub record IsMeasured (octets : List ℕ) (before offset : ℕ) (open_end : List ℕ) : Type 0 where
  pub settled : List Part
  pub settles : Settles octets settled open_end
  pub text_len : offset ≡ before + length (text settled)
  pub fits : offset < 2 ^ 64

-- After `before` octets of text, the text of what is settled is longer than a `usize` can say.
pub record IsPastSize (octets : List ℕ) (before : ℕ) : Type 0 where
  pub settled : List Part
  pub end : List ℕ
  pub settles : Settles octets settled end
  pub past : 2 ^ 64 - 1 < before + length (text settled)

-- After `before` octets of text, there is room for the text of what is settled.
pub record HasRoomForText (octets : List ℕ) (before room : ℕ) : Type 0 where
  pub settled : List Part
  pub end : List ℕ
  pub settles : Settles octets settled end
  pub within : before + length (text settled) ≤ room

-- What held octets are with a piece after them, or nothing if none are held.
abbrev pub IsCompleted : List ℕ → List ℕ → Option Completed → Type 0
IsCompleted held piece None = held ≡ []
IsCompleted held piece (Some completed) = IsBeginning held × Completes held piece completed

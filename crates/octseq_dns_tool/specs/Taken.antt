-- What is made of the messages of a stream, one after another.
use Rattle.std.specs.Fmt.{decimal}
use Rattle.std.specs.Prelude.{◌≡◌, ◌⊎◌, ℕ, List, [], ◌++◌, codes, Bool, true, false}
use Rattle.octseq.specs.Part.{part_of}
use Rattle.octseq_dns.specs.Frames.{IsMessageCut}
use Rattle.octseq_dns_tool.specs.Rewritten.{IsAnew, IsSuch, CannotMove, IsRewrittenTooLong}
use Rattle.octseq_dns_tool.specs.Shown.{IsMalformedMessage, IsNote, IsShown}
use Rattle.octseq_dns_tool.specs.declared.engine.stream.Messages.{Messages}
use Rattle.octseq_dns_tool.specs.declared.engine.stream.Messages.TheVariants.{Shown, Rewritten}
use Rattle.octseq_cli.specs.Frames.{IsPlainEnd, IsPlainRest}
use Rattle.octseq_cli.specs.declared.frames.Ending.{Ending}

-- the output for a message that is shown: what is shown of it, and an empty line
abbrev pub IsBlock : ℕ → List ℕ → Bool → List ℕ → List ℕ → Type 0
IsBlock number octets is_fine written note = (is_message : Bool) × (shown : List ℕ) × IsShown octets is_message shown
    × IsNote number octets is_message note × (is_fine ≡ true) × (written ≡ shown ++ codes "\n")

-- the line with the number of a message that is left out, and why
abbrev pub left_line : ℕ → List ℕ → List ℕ
left_line number why = codes "message " ++ decimal number ++ codes ": left out: " ++ why ++ codes "\n"

-- the note about octets that are left out: they aren't a message, or are one whose data may have pointers, which would
-- point elsewhere, or are one that would be too long
abbrev pub IsLeftNote : ℕ → List ℕ → List ℕ → Type 0
IsLeftNote number octets note = (IsMalformedMessage octets × IsNote number octets false note)
    ⊎ ((IsSuch CannotMove octets × (note ≡ left_line number (codes "its data may have pointers")))
    ⊎ (IsSuch IsRewrittenTooLong octets × (note ≡ left_line number (codes "it takes more than 65535 octets"))))

-- the output for a message that is rewritten: its octets, preceded by their length, or nothing if it is left out
abbrev pub IsMoved : ℕ → List ℕ → Bool → List ℕ → List ℕ → Type 0
IsMoved number octets true written note =
    (anew : List ℕ) × IsAnew octets anew × (written ≡ part_of 2 anew) × (note ≡ [])
IsMoved number octets false written note = IsLeftNote number octets note × (written ≡ [])

-- what is made of the message of this number: whether it is fine, the output for it, and the note about it
abbrev pub IsPiece : Messages → ℕ → List ℕ → Bool → List ℕ → List ℕ → Type 0
IsPiece Shown number octets is_fine written note = IsBlock number octets is_fine written note
IsPiece Rewritten number octets is_fine written note = IsMoved number octets is_fine written note

-- the output if a stream ends inside a message
abbrev pub ending_of : Messages → List ℕ
ending_of Shown = codes "unexpected end of input\n"
ending_of Rewritten = []

-- the rest of a stream, by how it ends
abbrev pub IsStreamRest : Ending → List ℕ → Type 0
IsStreamRest = IsPlainRest IsMessageCut

-- what is made of the rest
abbrev pub IsEnd : Messages → ℕ → List ℕ → Bool → List ℕ → List ℕ → Type 0
IsEnd c number = IsPlainEnd IsMessageCut (ending_of c)

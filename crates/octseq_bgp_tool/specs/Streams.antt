-- What is made of a stream of messages, one after another.
use Rattle.std.specs.Prelude.{◌≡◌, ◌⊎◌, ℕ, List, [], ◌++◌, codes, Bool, true, false}
use Rattle.octseq_bgp.specs.Rewritten.{IsRewritten}
use Rattle.octseq_bgp.specs.Stream.{IsFrameCut, IsMisframed}
use Rattle.octseq_bgp.specs.declared.session.SessionConfig.{SessionConfig}
use Rattle.octseq_bgp_tool.specs.Shown.{IsMalformedMessage, IsShown, IsNote}
use Rattle.octseq_bgp_tool.specs.declared.engine.messages.Output.{Output}
use Rattle.octseq_bgp_tool.specs.declared.engine.messages.Output.TheVariants.{Text, Anew}
use Rattle.octseq_cli.specs.Frames.{IsPlainEnd, IsPlainRest, stop_line}
use Rattle.octseq_cli.specs.declared.frames.Ending.{Ending}
use Rattle.octseq_cli.specs.declared.frames.Ending.TheVariants.{Misframed}

-- the output for a message that is shown: what is shown of it, and an empty line
abbrev pub IsBlock : SessionConfig → ℕ → List ℕ → Bool → List ℕ → List ℕ → Type 0
IsBlock s number octets is_fine written note = (is_message : Bool) × (shown : List ℕ)
    × IsShown s octets is_message shown × IsNote (codes "message") s number octets is_message note
    × (is_fine ≡ true) × (written ≡ shown ++ codes "\n")

-- the output for a message that is rewritten: its octets anew, or nothing if octets aren't a message
abbrev pub IsAnew : SessionConfig → ℕ → List ℕ → Bool → List ℕ → List ℕ → Type 0
IsAnew s number octets true written note =
    IsRewritten s octets written × IsNote (codes "message") s number octets true note
IsAnew s number octets false written note =
    IsMalformedMessage s octets × (written ≡ []) × IsNote (codes "message") s number octets false note

-- what is made of the message of this number: whether it is fine, the output for it, and the note about it
abbrev pub IsPiece : Output → SessionConfig → ℕ → List ℕ → Bool → List ℕ → List ℕ → Type 0
IsPiece Text s number octets is_fine written note = IsBlock s number octets is_fine written note
IsPiece Anew s number octets is_fine written note = IsAnew s number octets is_fine written note

-- the output if a stream ends inside a message
abbrev pub messages_cut_text : Output → List ℕ
messages_cut_text Text = codes "unexpected end of input\n"
messages_cut_text Anew = []

-- the output for octets that aren't framed as a message
abbrev pub misframed_text : Output → List ℕ
misframed_text Text = codes "malformed\n\n"
misframed_text Anew = []

-- what is made of octets that aren't framed as a message, with all after them
abbrev pub IsMisframedEnd : Output → SessionConfig → ℕ → List ℕ → Bool → List ℕ → List ℕ → Type 0
IsMisframedEnd o s number rest is_fine ending note = IsMisframed s rest × (is_fine ≡ false)
    × (ending ≡ misframed_text o) × (note ≡ stop_line (codes "message") number 0)

-- the rest of a stream, by how it ends
abbrev pub IsMessagesRest : SessionConfig → Ending → List ℕ → Type 0
IsMessagesRest s Misframed rest = IsMisframed s rest
IsMessagesRest s ending rest = IsPlainRest (IsFrameCut s) ending rest

-- what is made of the rest: it is empty or a part of a message, or isn't framed as one
abbrev pub IsMessagesEnd : Output → SessionConfig → ℕ → List ℕ → Bool → List ℕ → List ℕ → Type 0
IsMessagesEnd o s number rest is_fine ending note =
    IsPlainEnd (IsFrameCut s) (messages_cut_text o) rest is_fine ending note
    ⊎ IsMisframedEnd o s number rest is_fine ending note

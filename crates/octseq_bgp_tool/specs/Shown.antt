-- What the program shows of octets that may be a message, and its note about them.
use Rattle.std.specs.Prelude.{◌≡◌, ℕ, List, [], Bool, true, false, codes}
use Rattle.octseq_bgp.specs.Message.{Message, IsMessage}
use Rattle.octseq_bgp.specs.MessageText.{IsMessageText}
use Rattle.octseq_bgp.specs.Stop.{IsStop}
use Rattle.octseq_bgp.specs.declared.session.SessionConfig.{SessionConfig}
use Rattle.octseq_cli.specs.Frames.{stop_line}

-- Octets are a message of the session, and this is its text.
pub record HasText (s : SessionConfig) (octets text : List ℕ) : Type 0 where
  pub message : Message
  pub is_message : IsMessage s octets message
  pub is_text : IsMessageText message text

-- octets aren't a message of the session
abbrev pub IsMalformedMessage : SessionConfig → List ℕ → Type 0
IsMalformedMessage s octets = (m : Message) → ¬ IsMessage s octets m

-- whether octets are a message of the session
abbrev pub IsRead : SessionConfig → List ℕ → Bool → Type 0
IsRead s octets true = (m : Message) × IsMessage s octets m
IsRead s octets false = IsMalformedMessage s octets

-- what is shown of octets: the text of the message, if they are one, otherwise `malformed`
abbrev pub IsShown : SessionConfig → List ℕ → Bool → List ℕ → Type 0
IsShown s octets true shown = HasText s octets shown
IsShown s octets false shown = IsMalformedMessage s octets × (shown ≡ codes "malformed\n")

-- the note about octets on standard error, by what they are and their number: if they aren't a message, the offset
-- where reading stopped
abbrev pub IsNote : List ℕ → SessionConfig → ℕ → List ℕ → Bool → List ℕ → Type 0
IsNote what s number octets true note = note ≡ []
IsNote what s number octets false note = (offset : ℕ) × IsStop s octets offset × (note ≡ stop_line what number offset)

-- what is made of an input as one message
abbrev pub IsMessagePiece : SessionConfig → ℕ → List ℕ → Bool → List ℕ → List ℕ → Type 0
IsMessagePiece s number octets is_fine written note =
    IsShown s octets is_fine written × IsNote (codes "message") s number octets is_fine note

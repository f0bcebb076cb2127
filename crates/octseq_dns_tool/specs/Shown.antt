-- What the program shows of octets that may be a message, and its note about them.
use Rattle.std.specs.Prelude.{◌≡◌, ℕ, List, [], Bool, true, false, codes}
use Rattle.octseq_dns.specs.Entry.{Question, Record}
use Rattle.octseq_dns.specs.Message.{IsMessage}
use Rattle.octseq_dns.specs.MessageText.{IsMessageText}
use Rattle.octseq_dns.specs.declared.header.Header.{Header}
use Rattle.octseq_dns.specs.Stop.{IsStop}
use Rattle.octseq_cli.specs.Frames.{stop_line}

-- Octets are a message, and this is its text.
pub record HasText (octets text : List ℕ) : Type 0 where
  pub header : Header
  pub questions : List Question
  pub answers : List Record
  pub authorities : List Record
  pub additionals : List Record
  pub is_message : IsMessage octets header questions answers authorities additionals
  pub is_text : IsMessageText header questions answers authorities additionals text

-- octets aren't a message
abbrev pub IsMalformedMessage : List ℕ → Type 0
IsMalformedMessage octets = (header : Header) (questions : List Question)
    (answers authorities additionals : List Record)
    → ¬ IsMessage octets header questions answers authorities additionals

-- what is shown of octets: the text of the message, if they are one, otherwise `malformed`
abbrev pub IsShown : List ℕ → Bool → List ℕ → Type 0
IsShown octets true shown = HasText octets shown
IsShown octets false shown = IsMalformedMessage octets × (shown ≡ codes "malformed\n")

-- the note about octets on standard error: if they aren't a message, the number of the message and the place where
-- reading stopped
abbrev pub IsNote : ℕ → List ℕ → Bool → List ℕ → Type 0
IsNote number octets true note = note ≡ []
IsNote number octets false note = (place : ℕ) × IsStop octets place × (note ≡ stop_line (codes "message") number place)

-- what is made of an input as one message
abbrev pub IsMessagePiece : ℕ → List ℕ → Bool → List ℕ → List ℕ → Type 0
IsMessagePiece number octets is_fine written note =
    IsShown octets is_fine written × IsNote number octets is_fine note

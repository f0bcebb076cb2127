-- Messages that are composed of their texts.
use Rattle.std.specs.Fmt.{decimal}
use Rattle.std.specs.Prelude.{◌≡◌, ◌⊎◌, ℕ, ◌≤◌, Some, List, [], ◌++◌, codes, length, Bool, true, false}
use Rattle.octseq.specs.Part.{part_of}
use Rattle.octseq_dns.specs.Contents.{Message, message_octets}
use Rattle.octseq_dns_compose.specs.MessageText.{IsAnyText, IsTextOfMessage}
use Rattle.octseq_dns_compose.specs.TextLines.{IsLineFault}
use Rattle.octseq_dns_compose.specs.TooLong.{IsMessageTooLong}
use Rattle.octseq_dns_compose.specs.declared.error.Place.{Place}
use Rattle.octseq_dns_tool.specs.Taken.{left_line}
use Rattle.octseq_dns_tool.specs.declared.engine.rewrite.Composing.{Composing}
use Rattle.octseq_dns_tool.specs.declared.engine.rewrite.Composing.TheVariants.{Written, Malformed, Long}

-- The message of which a text says the first lines, or all of them, takes more than 65,535 octets, or the data of a
-- line does.
abbrev pub IsLongText : List ℕ → Type 0
IsLongText = IsMessageTooLong 16384 (Some 65535)

-- A text is that of a message, and these are the octets that are composed of it with at most one name kept for each
-- offset that a pointer can express: at most 65,535.
pub record IsComposed (text octets : List ℕ) : Type 0 where
  pub message : Message
  pub is_text : IsTextOfMessage text message
  pub octets_are : octets ≡ message_octets 16384 message
  pub size : length octets ≤ 65535
  pub is_short : ¬ IsLongText text

-- A text is that of no message, and this is the place of the first word that isn't what has to come there. The message
-- of the lines before it isn't too long.
abbrev pub IsFaultyText : List ℕ → Place → Type 0
IsFaultyText text place = ¬ IsLongText text × IsLineFault IsAnyText text 1 place.line place.offset

-- whether the message of a text is composed, and its octets if it is, or why not
abbrev pub IsComposing : List ℕ → Composing → List ℕ → Type 0
IsComposing text Written octets = IsComposed text octets
IsComposing text (Malformed place) octets = IsFaultyText text place
IsComposing text Long octets = IsLongText text

-- the line that reports where the text of a numbered message is malformed
abbrev pub fault_line : ℕ → Place → List ℕ
fault_line number place = codes "message " ++ decimal number ++ codes ": malformed at line " ++ decimal place.line
    ++ codes ", octet " ++ decimal place.offset ++ codes "\n"

-- the note about a text that is left out: it is that of no message, or of one that would be too long
abbrev pub IsTextNote : ℕ → List ℕ → List ℕ → Type 0
IsTextNote number text note = ((place : Place) × IsFaultyText text place × (note ≡ fault_line number place))
    ⊎ (IsLongText text × (note ≡ left_line number (codes "it takes more than 65535 octets")))

-- what is made of the text of this number: its message, preceded by its length, or nothing if it is left out
abbrev pub IsTextPiece : ℕ → List ℕ → Bool → List ℕ → List ℕ → Type 0
IsTextPiece number text true written note =
    (octets : List ℕ) × IsComposed text octets × (written ≡ part_of 2 octets) × (note ≡ [])
IsTextPiece number text false written note = IsTextNote number text note × (written ≡ [])

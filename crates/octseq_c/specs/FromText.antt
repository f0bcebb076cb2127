-- Records and messages composed of their text: RFC 1035, 5.1.
use Rattle.std.specs.Prelude.{◌≡◌, ℕ, ◌<◌, ◌≤◌, None, List, ◌++◌, length}
use Rattle.octseq.specs.Integer.{octets_be}
use Rattle.octseq_dns.specs.Contents.{Message, message_octets}
use Rattle.octseq_dns.specs.Wire.{wire}
use Rattle.octseq_dns_compose.specs.MessageText.{IsTextOfMessage}
use Rattle.octseq_dns_compose.specs.RecordText.{Head, IsAnyRecord, IsRecordText}
use Rattle.octseq_dns_scan.specs.Word.{AreWords}
use Rattle.octseq_c.specs.Made.{offsets_kept}

-- the octets of a record up to its data: its owner, its type, class and TTL, and the length of the data
abbrev pub record_front : Head → ℕ → List ℕ
record_front head n = wire head.labels ++ (octets_be 2 head.rtype ++ (octets_be 2 head.class ++ (octets_be 4 head.ttl
    ++ octets_be 2 n)))

-- The words of a text are a record, whose data has at most 65,535 octets, and these are its octets, without pointers.
pub record IsRecordWire (text made : List ℕ) : Type 0 where
  pub words : List (List ℕ)
  pub head : Head
  pub data_octets : List ℕ
  pub are : AreWords words text
  pub is : IsRecordText None head words data_octets
  pub fits : length data_octets ≤ 65535
  pub made_is : made ≡ record_front head (length data_octets) ++ data_octets

-- The words of a text are a record, whose data has more than 65,535 octets.
pub record IsLongRecord (text : List ℕ) : Type 0 where
  pub words : List (List ℕ)
  pub data_octets : List ℕ
  pub are : AreWords words text
  pub is : IsAnyRecord None words data_octets
  pub long : 65535 < length data_octets

-- A text is that of a message, and these are its octets.
pub record IsTextWire (text made : List ℕ) : Type 0 where
  pub message : Message
  pub is : IsTextOfMessage text message
  pub made_is : made ≡ message_octets offsets_kept message

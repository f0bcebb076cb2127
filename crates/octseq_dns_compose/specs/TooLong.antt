-- Texts of messages that exceed a limit, and texts for which the allocator is asked.
use Rattle.std.specs.Prelude.{◌≡◌, ◌⊎◌, ℕ, ◌<◌, Option, None, List, [], ◌∷◌, ◌++◌, length, codes}
use Rattle.octseq.specs.Limit.{ExceedsLimit}
use Rattle.octseq_dns.specs.Contents.{Message, counts_of, message_octets}
use Rattle.octseq_dns_message.specs.declared.header.Header.{Header}
use Rattle.octseq_dns_message.specs.declared.header.HeaderCounts.{HeaderCounts}
use Rattle.octseq_dns_scan.specs.Word.{AreWords, TakesWord}
use Rattle.octseq_dns_compose.specs.MessageText.{EntryLine, IsWithAll, SayEntries}
use Rattle.octseq_dns_compose.specs.MessageText.{headed_message}
use Rattle.octseq_dns_compose.specs.RecordText.{BeginsWithList}
use Rattle.octseq_dns_compose.specs.TextLines.{BeginsWithLines, SplitsLines}

-- A text begins with the lines of a header and of entries, followed by what is left.
pub record BeginsWithEntries (text ahead : List ℕ) : Type 0 where
  pub lines : List (List (List ℕ))
  pub header : Header
  pub entries : List EntryLine
  pub begins : BeginsWithLines lines text ahead
  pub say : SayEntries lines header entries

-- ---- texts that are too long

-- The lines of a text up to one of them are those of a message that has more octets than a limit.
pub record HasLongMessage (most : ℕ) (limit : Option ℕ) (text : List ℕ) : Type 0 where
  pub ahead : List ℕ
  pub front : BeginsWithEntries text ahead
  pub m : Message
  pub message_is : IsWithAll (headed_message front.header) front.entries m
  pub past : ExceedsLimit limit (length (message_octets most m))

-- the octets of the data that the line of an entry says
abbrev pub data_octets : EntryLine → List ℕ
data_octets (EntryLine.question q) = []
data_octets (EntryLine.answer said) = said.octets
data_octets (EntryLine.authority said) = said.octets
data_octets (EntryLine.additional said) = said.octets

-- The lines of a text up to one of them are those of entries, and the data of the last has more than 65,535 octets.
-- That line may lack its line feed.
pub record HasLongData (text : List ℕ) : Type 0 where
  pub ahead : List ℕ
  pub front : BeginsWithEntries text ahead
  pub line : List ℕ
  pub after : List ℕ
  pub split : SplitsLines ahead line after
  pub words : List (List ℕ)
  pub are : AreWords words line
  pub entry : EntryLine
  pub say : SayEntries (front.lines ++ words ∷ []) front.header (front.entries ++ entry ∷ [])
  pub past : 65535 < length (data_octets entry)

abbrev pub IsMessageTooLong : ℕ → Option ℕ → List ℕ → Type 0
IsMessageTooLong most limit text = HasLongMessage most limit text ⊎ HasLongData text

-- ---- texts with lists

-- The first line of a text is that of a record, after the word for its section, whose data ends in a list.
pub record IsListLine (section text : List ℕ) : Type 0 where
  pub line : List ℕ
  pub after : List ℕ
  pub split : SplitsLines text line after
  pub rest : List ℕ
  pub taken : TakesWord section line rest
  pub list : BeginsWithList None rest

-- the word for a section of records
abbrev pub IsRecordWord : List ℕ → Type 0
IsRecordWord word = (word ≡ codes "answer") ⊎ (word ≡ codes "authority") ⊎ (word ≡ codes "additional")

-- A text begins with lines of entries, followed by such a line.
pub record HasListLine (text : List ℕ) : Type 0 where
  pub ahead : List ℕ
  pub front : BeginsWithEntries text ahead
  pub section : List ℕ
  pub named : IsRecordWord section
  pub is : IsListLine section ahead

-- a message has more octets than a limit, or more entries in a section than its count can express
abbrev pub Exceeds : ℕ → Option ℕ → (HeaderCounts → ℕ) → Message → Type 0
Exceeds most limit count m = ExceedsLimit limit (length (message_octets most m)) ⊎ (65535 < count (counts_of m))

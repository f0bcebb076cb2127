-- What the text says that is shown of a record, a question and a message.
use Rattle.std.specs.Prelude.{◌≡◌, ℕ, false, None, List, [], ◌++◌, map}
use Rattle.std.specs.List.{AllByRecursion, AllZip}
use Rattle.octseq_dns.specs.Contents.{Message, Question}
use Rattle.octseq_dns.specs.ReadBack.{bare}
use Rattle.octseq_dns_data.specs.Data.{ParsedRdata}
use Rattle.octseq_dns_message.specs.Entry as read
use Rattle.octseq_dns_message.specs.RecordData.{IsDataOf}
use Rattle.octseq_dns_message.specs.declared.header.Header.{Header}
use Rattle.octseq_dns_scan.specs.Word.{AreWords}
use Rattle.octseq_dns_text.specs.DataShown.{rdata_octets}
use Rattle.octseq_dns_compose.specs.MessageText.{EntryLine, IsRecordOfLine, RecordLine, SayEntries}
use Rattle.octseq_dns_compose.specs.RecordText.{IsRecordText}
use Rattle.octseq_dns_compose.specs.TextLines.{AreLines}

-- ---- a text of one line

-- A text has no line feed (10), and consists of words of which something holds.
pub record ShowsWords (Are : List (List ℕ) → Type 0) (text : List ℕ) : Type 0 where
  pub words : List (List ℕ)
  pub are : AreWords words text
  pub one_line : AllByRecursion (λ octet. ¬ (octet ≡ 10)) text
  pub is : Are words

-- ---- what is said

-- of a record: its labels, its TTL, its class and its type, and the octets of its data, with names in plain form
abbrev pub said_of : read.Record → ParsedRdata → RecordLine
said_of r rdata = record {
  head = record { labels = r.owner.labels; ttl = r.ttl; class = r.class; rtype = r.rtype };
  octets = rdata_octets rdata;
}

abbrev pub IsSaidOf : read.Record → RecordLine → Type 0
IsSaidOf r said = (rdata : ParsedRdata) × IsDataOf r rdata × (said ≡ said_of r rdata)

-- the words of a record's line after that of its section
abbrev pub AreRecordWords : RecordLine → List (List ℕ) → Type 0
AreRecordWords said words = IsRecordText None said.head words said.octets

-- of a header: all but the reserved bit, which has no word
abbrev pub header_said : Header → Header
header_said h = record h { flags = record h.flags { z = false } }

-- of the sections of a message, one after another
abbrev pub entries_said : List Question → List RecordLine → List RecordLine → List RecordLine → List EntryLine
entries_said questions answers authorities additionals = map EntryLine.question questions
    ++ (map EntryLine.answer answers
    ++ (map EntryLine.authority authorities ++ (map EntryLine.additional additionals ++ [])))

-- ---- a text of lines

-- A text consists of the lines of a header and of entries.
pub record SaysLines (text : List ℕ) (header : Header) (entries : List EntryLine) : Type 0 where
  pub lines : List (List (List ℕ))
  pub lines_are : AreLines lines text
  pub say : SayEntries lines header entries

-- The text of a message says its header, its questions and its records.
pub record ShowsMessage (header : Header) (questions : List read.Question)
    (answers authorities additionals : List read.Record) (text : List ℕ) : Type 0 where
  pub answers_said : List RecordLine
  pub answers_are : AllZip IsSaidOf answers answers_said
  pub authorities_said : List RecordLine
  pub authorities_are : AllZip IsSaidOf authorities authorities_said
  pub additionals_said : List RecordLine
  pub additionals_are : AllZip IsSaidOf additionals additionals_said
  pub says : SaysLines text (header_said header)
      (entries_said (map bare questions) answers_said authorities_said additionals_said)

-- A message is what lines say: a header, questions, and a record for each line of one.
pub record IsMessageOfLines (header : Header) (questions : List Question)
    (answers authorities additionals : List RecordLine)
    (m : Message) : Type 0 where
  pub header_is : m.header ≡ header
  pub questions_are : m.questions ≡ questions
  pub answers_are : AllZip IsRecordOfLine answers m.answers
  pub authorities_are : AllZip IsRecordOfLine authorities m.authorities
  pub additionals_are : AllZip IsRecordOfLine additionals m.additionals

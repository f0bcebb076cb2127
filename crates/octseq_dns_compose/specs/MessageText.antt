-- The text of a message: a line for its header, and one for each question and each record, section by section.
use Rattle.std.specs.Prelude.{◌≡◌, ℕ, ◌≤◌, None, List, [], ◌∷◌, codes}
use Rattle.octseq_dns.specs.Blank.{blank_message}
use Rattle.octseq_dns.specs.Contents.{Message, Question, Record}
use Rattle.octseq_dns.specs.Rdata.{bare_rdata, rdata_fields}
use Rattle.octseq_dns.specs.Writes.{more_questions, more_answers, more_authorities, more_additionals}
use Rattle.octseq_dns_data.specs.Data.{ParsedRdata}
use Rattle.octseq_dns_message.specs.declared.header.Header.{Header}
use Rattle.octseq_dns_compose.specs.Alone.{SaysAlone}
use Rattle.octseq_dns_compose.specs.HeaderLine.{IsHeaderLine}
use Rattle.octseq_dns_compose.specs.QuestionText.{IsQuestionText}
use Rattle.octseq_dns_compose.specs.RecordText.{Head, IsRecordText}
use Rattle.octseq_dns_compose.specs.Take.{IsGiven, Then}
use Rattle.octseq_dns_compose.specs.TextLines.{AreLines}

-- ---- what the lines say

-- What the line of a record says: its head, and the octets of its data.
pub record RecordLine : Type 0 where
  pub head : Head
  pub octets : List ℕ

-- What the line of an entry says: a question, or a record of one of the three sections.
pub data EntryLine : Type 0 where
  question : Question → EntryLine
  answer : RecordLine → EntryLine
  authority : RecordLine → EntryLine
  additional : RecordLine → EntryLine

-- the sections, in their order
abbrev pub section_of : EntryLine → ℕ
section_of (EntryLine.question q) = 0
section_of (EntryLine.answer said) = 1
section_of (EntryLine.authority said) = 2
section_of (EntryLine.additional said) = 3

-- the line of a question, and that of a record after the word for its section
abbrev pub IsQuestionLine : Question → List (List ℕ) → Type 0
IsQuestionLine q = Then (IsGiven (codes "question")) (IsQuestionText q.labels q.qclass q.qtype)

abbrev pub IsRecordLine : List ℕ → RecordLine → List (List ℕ) → Type 0
IsRecordLine section said = Then (IsGiven section) (λ words. IsRecordText None said.head words said.octets)

abbrev pub IsEntryLine : EntryLine → List (List ℕ) → Type 0
IsEntryLine (EntryLine.question q) = IsQuestionLine q
IsEntryLine (EntryLine.answer said) = IsRecordLine (codes "answer") said
IsEntryLine (EntryLine.authority said) = IsRecordLine (codes "authority") said
IsEntryLine (EntryLine.additional said) = IsRecordLine (codes "additional") said

-- Lines of entries, none of which is of an earlier section than `from`, or than the entry before it.
abbrev pub AreEntries : ℕ → List EntryLine → List (List (List ℕ)) → Type 0
AreEntries from entries [] = entries ≡ []
AreEntries from entries (words ∷ lines) = (entry : EntryLine) × (more : List EntryLine) × (entries ≡ entry ∷ more)
    × (from ≤ section_of entry) × IsEntryLine entry words × AreEntries (section_of entry) more lines

-- The lines of a message: that of its header, and those of its entries.
pub record SayEntries (lines : List (List (List ℕ))) (header : Header) (entries : List EntryLine) : Type 0 where
  pub first : List (List ℕ)
  pub others : List (List (List ℕ))
  pub lines_are : lines ≡ first ∷ others
  pub header_is : IsHeaderLine header first
  pub entries_are : AreEntries 0 entries others

-- lines of any message
abbrev pub IsAnyText : List (List (List ℕ)) → Type 0
IsAnyText lines = (header : Header) × (entries : List EntryLine) × SayEntries lines header entries

-- ---- the message

-- The record that a line says: its data is what its octets say by themselves, by its type and its class. In them no
-- name has a pointer, since they have no message around them.
pub record IsRecordOfLine (said : RecordLine) (r : Record) : Type 0 where
  pub parsed : ParsedRdata
  pub says : SaysAlone said.head.rtype said.head.class said.octets parsed
  pub is : r ≡ record {
    labels = said.head.labels;
    rtype = said.head.rtype;
    class = said.head.class;
    ttl = said.head.ttl;
    fields = rdata_fields (bare_rdata parsed);
  }

-- a message with one more entry
abbrev pub IsWith : Message → EntryLine → Message → Type 0
IsWith m (EntryLine.question q) more = more ≡ more_questions m q
IsWith m (EntryLine.answer said) more = (r : Record) × IsRecordOfLine said r × (more ≡ more_answers m r)
IsWith m (EntryLine.authority said) more = (r : Record) × IsRecordOfLine said r × (more ≡ more_authorities m r)
IsWith m (EntryLine.additional said) more = (r : Record) × IsRecordOfLine said r × (more ≡ more_additionals m r)

-- and with one after another
abbrev pub IsWithAll : Message → List EntryLine → Message → Type 0
IsWithAll m [] all = all ≡ m
IsWithAll m (entry ∷ entries) all = (more : Message) × IsWith m entry more × IsWithAll more entries all

-- a message with a header alone
abbrev pub headed_message : Header → Message
headed_message header = record blank_message { header = header }

-- A text is that of a message: its header, and its questions and records, section by section, each on a line of its
-- own, in their order.
pub record IsTextOfMessage (text : List ℕ) (m : Message) : Type 0 where
  pub lines : List (List (List ℕ))
  pub header : Header
  pub entries : List EntryLine
  pub lines_are : AreLines lines text
  pub say : SayEntries lines header entries
  pub message_is : IsWithAll (headed_message header) entries m

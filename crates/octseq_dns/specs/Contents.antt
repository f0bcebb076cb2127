-- A message as a value without places, and its octets as a function of it: RFC 1035, 4.1.
use Rattle.std.specs.Prelude.{ℕ, ◌<◌, ◌≤◌, Some, None, List, [], ◌∷◌, ◌++◌, length, map}
use Rattle.std.specs.FinMap.{empty}
use Rattle.std.specs.List.{AllByRecursion}
use Rattle.octseq.specs.Integer.{octets_be}
use Rattle.octseq_dns_compress.specs.Fits.{NameFits, FitsField}
use Rattle.octseq_dns_compress.specs.State.{State, Field, Entry, with_entries}
use Rattle.octseq_dns_message.specs.Header.{flag_bits}
use Rattle.octseq_dns_message.specs.declared.header.Header.{Header}
use Rattle.octseq_dns_message.specs.declared.header.HeaderCounts.{HeaderCounts}

-- A question: the labels of its name, its type and its class.
pub record Question : Type 0 where
  pub labels : List (List ℕ)
  pub qtype : ℕ
  pub qclass : ℕ

-- A record: the labels of its owner name, its type, class and TTL, and the fields of its data.
pub record Record : Type 0 where
  pub labels : List (List ℕ)
  pub rtype : ℕ
  pub class : ℕ
  pub ttl : ℕ
  pub fields : List Field

-- A message: its header, its questions, and the records of its other three sections.
pub record Message : Type 0 where
  pub header : Header
  pub questions : List Question
  pub answers : List Record
  pub authorities : List Record
  pub additionals : List Record

-- ---- its octets

-- the number of entries of each section
abbrev pub counts_of : Message → HeaderCounts
counts_of m = record {
  qdcount = length m.questions;
  ancount = length m.answers;
  nscount = length m.authorities;
  arcount = length m.additionals;
}

-- the 12 octets of a header
abbrev pub header_octets : Header → HeaderCounts → List ℕ
header_octets h counts = octets_be 2 h.id ++ (octets_be 2 (flag_bits h) ++ (octets_be 2 counts.qdcount
    ++ (octets_be 2 counts.ancount ++ (octets_be 2 counts.nscount ++ octets_be 2 counts.arcount))))

-- a question as an entry: its name, its type and its class
abbrev pub question_entry : Question → Entry
question_entry q = record {
  head = Field.name q.labels ∷ Field.octets (octets_be 2 q.qtype ++ octets_be 2 q.qclass) ∷ [];
  data_fields = None;
}

-- a record as an entry: its name, its type, class and TTL, and its data, preceded by its length
abbrev pub record_entry : Record → Entry
record_entry r = record {
  head = Field.name r.labels
      ∷ Field.octets (octets_be 2 r.rtype ++ (octets_be 2 r.class ++ octets_be 4 r.ttl)) ∷ [];
  data_fields = Some r.fields;
}

-- the records of all three sections
abbrev pub records_in : Message → List Record
records_in m = m.answers ++ (m.authorities ++ m.additionals)

-- all entries, section by section
abbrev pub entries_of : Message → List Entry
entries_of m = map question_entry m.questions ++ map record_entry (records_in m)

-- a header, with no names that pointers may lead to
abbrev pub with_only_header : Header → HeaderCounts → State
with_only_header h counts = record { octets = header_octets h counts; names = empty }

-- The octets of a message, and the names in it that pointers may lead to; at most `most` names are kept.
abbrev pub composed : ℕ → Message → State
composed most m = with_entries most (with_only_header m.header (counts_of m)) (entries_of m)

abbrev pub message_octets : ℕ → Message → List ℕ
message_octets most m = (composed most m).octets

-- ---- whether the values fit

-- The name and the numbers of a question fit their octets.
pub record FitsQuestion (q : Question) : Type 0 where
  pub name : NameFits q.labels
  pub qtype : q.qtype < 65536
  pub qclass : q.qclass < 65536

-- The same for a record, and for the names in its data.
pub record FitsRecord (r : Record) : Type 0 where
  pub name : NameFits r.labels
  pub rtype : r.rtype < 65536
  pub class : r.class < 65536
  pub ttl : r.ttl < 4294967296
  pub fields : AllByRecursion FitsField r.fields

-- The numbers of a header fit their bits.
pub record FitsHeader (h : Header) : Type 0 where
  pub id : h.id < 65536
  pub opcode : h.opcode < 16
  pub rcode : h.rcode < 16

-- All values of a message fit, and no section has more entries than its count can express.
pub record MessageFits (m : Message) : Type 0 where
  pub header : FitsHeader m.header
  pub questions : AllByRecursion FitsQuestion m.questions
  pub answers : AllByRecursion FitsRecord m.answers
  pub authorities : AllByRecursion FitsRecord m.authorities
  pub additionals : AllByRecursion FitsRecord m.additionals
  pub qdcount : length m.questions ≤ 65535
  pub ancount : length m.answers ≤ 65535
  pub nscount : length m.authorities ≤ 65535
  pub arcount : length m.additionals ≤ 65535

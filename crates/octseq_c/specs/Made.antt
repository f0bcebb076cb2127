-- The DNS messages that are composed.
use Rattle.std.specs.Prelude.{◌≡◌, ℕ, ◌+◌, ◌<◌, ◌≤◌, true, nat_eq, List, [], ◌++◌, length, map, filter, IsTrue}
use Rattle.std.specs.List.{AllZip}
use Rattle.octseq.specs.Integer.{octets_be}
use Rattle.octseq_dns.specs.Contents as contents
use Rattle.octseq_dns.specs.Contents.{message_octets}
use Rattle.octseq_dns.specs.Data.{ParsedRdata}
use Rattle.octseq_dns.specs.Entry.{Question, Record}
use Rattle.octseq_dns.specs.Header.{flag_bits}
use Rattle.octseq_dns.specs.Message.{IsMessage}
use Rattle.octseq_dns.specs.Moved.{CanMove, may_have_names}
use Rattle.octseq_dns.specs.Rdata.{bare_rdata, rdata_fields}
use Rattle.octseq_dns.specs.ReadBack.{bare}
use Rattle.octseq_dns.specs.Rewritten.{IsMessageOf}
use Rattle.octseq_dns.specs.Wire.{wire}
use Rattle.octseq_dns_message.specs.declared.header.Header.{Header}
use Rattle.octseq_c.specs.declared.rows.Row.{Row}
use Rattle.octseq_c.specs.Texts.{IsNameAt, IsDataAt, IsTypedAt, SpellsNameText}

-- how many offsets of a message are kept for pointers to refer to
abbrev pub offsets_kept : ℕ
offsets_kept = 512

-- ---- a message composed anew

-- The octets are a message whose data can be moved, and these are the octets of the same message composed anew.
pub record IsRewritten (octets made : List ℕ) : Type 0 where
  pub header : Header
  pub questions : List Question
  pub answers : List Record
  pub authorities : List Record
  pub additionals : List Record
  pub message : IsMessage octets header questions answers authorities additionals
  pub moved : CanMove (answers ++ (authorities ++ additionals))
  pub contents : contents.Message
  pub same : IsMessageOf header questions answers authorities additionals contents
  pub made_is : made ≡ message_octets offsets_kept contents

-- The octets are a message whose data can't be moved.
pub record IsImmovable (octets : List ℕ) : Type 0 where
  pub header : Header
  pub questions : List Question
  pub answers : List Record
  pub authorities : List Record
  pub additionals : List Record
  pub message : IsMessage octets header questions answers authorities additionals
  pub stays : ¬ CanMove (answers ++ (authorities ++ additionals))

-- ---- a query

-- the octets of a header with this id and these flags, which counts one question
abbrev pub query_header : ℕ → ℕ → List ℕ
query_header id flags = octets_be 2 id ++ (octets_be 2 flags ++ (octets_be 2 1 ++ (octets_be 2 0 ++ (octets_be 2 0
    ++ octets_be 2 0))))

-- These are the octets of a query for the name that a text spells: a header, the name, a type and a class.
pub record IsQuery (id flags : ℕ) (text : List ℕ) (qtype qclass : ℕ) (made : List ℕ) : Type 0 where
  pub labels : List (List ℕ)
  pub spelled : SpellsNameText text labels
  pub made_is : made ≡ query_header id flags ++ (wire labels ++ (octets_be 2 qtype ++ octets_be 2 qclass))

-- ---- an answer

-- There is a name at a row's offset of the octets, its data is within them, and its section is one of records.
pub record IsRow (source : List ℕ) (row : Row) : Type 0 where
  pub labels : List (List ℕ)
  pub name : IsNameAt source row.name_at labels
  pub data_within : row.data_at + row.data_len ≤ length source
  pub first : 1 ≤ row.section
  pub last : row.section ≤ 3

-- Its data can be moved: it has the form of its type, or is empty, or is of a type without names.
abbrev pub CanMoveRow : List ℕ → Row → Type 0
CanMoveRow source row =
    ((rdata : ParsedRdata) → ¬ IsTypedAt source row.data_at row.data_len row.rtype row.class rdata)
    → 0 < row.data_len → ¬ IsTrue (may_have_names row.rtype row.class)

-- The record of a row.
pub record IsRecordAt (source : List ℕ) (row : Row) (written : contents.Record) : Type 0 where
  pub labels : List (List ℕ)
  pub name : IsNameAt source row.name_at labels
  pub rdata : ParsedRdata
  pub data_is : IsDataAt source row.data_at row.data_len row.rtype row.class rdata
  pub is : written ≡ record {
    labels = labels;
    rtype = row.rtype;
    class = row.class;
    ttl = row.ttl;
    fields = rdata_fields (bare_rdata rdata);
  }

-- the rows of a section
abbrev pub in_section : ℕ → List Row → List Row
in_section section rows = filter (λ row. nat_eq row.section section) rows

-- The header of an answer has the id, the opcode and the flag RD of the query, the flag QR, and of `flags` the response
-- code and all other flags.
pub record IsAnswerHeader (asked : Header) (flags : ℕ) (header : Header) : Type 0 where
  pub meant : Header
  pub flags_are : flag_bits meant ≡ flags
  pub opcode : meant.opcode < 16
  pub rcode : meant.rcode < 16
  pub is : header ≡ record {
    id = asked.id;
    flags = record meant.flags { qr = true; rd = asked.flags.rd };
    opcode = asked.opcode;
    rcode = meant.rcode;
  }

-- A message has the records of the rows, each in its section, in order.
pub record HasRecordsOf (source : List ℕ) (rows : List Row) (m : contents.Message) : Type 0 where
  pub answers_are : AllZip (IsRecordAt source) (in_section 1 rows) m.answers
  pub authorities_are : AllZip (IsRecordAt source) (in_section 2 rows) m.authorities
  pub additionals_are : AllZip (IsRecordAt source) (in_section 3 rows) m.additionals

-- the message with only its header and its questions
abbrev pub without_records : contents.Message → contents.Message
without_records m = record m { answers = []; authorities = []; additionals = [] }

-- A message answers one with this header and these questions, with the records of the rows.
pub record IsAnswerOf (asked : Header) (flags : ℕ) (questions : List Question) (source : List ℕ) (rows : List Row)
    (m : contents.Message) : Type 0 where
  pub header_is : IsAnswerHeader asked flags m.header
  pub questions_are : m.questions ≡ map bare questions
  pub records_are : HasRecordsOf source rows m

-- These are the octets of an answer to a message, with the records of the rows.
pub record IsAnswer (query : List ℕ) (flags : ℕ) (source : List ℕ) (rows : List Row) (made : List ℕ) : Type 0 where
  pub asked : Header
  pub questions : List Question
  pub answers : List Record
  pub authorities : List Record
  pub additionals : List Record
  pub message : IsMessage query asked questions answers authorities additionals
  pub contents : contents.Message
  pub is : IsAnswerOf asked flags questions source rows contents
  pub made_is : made ≡ message_octets offsets_kept contents

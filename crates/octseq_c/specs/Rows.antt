-- The rows of numbers that C sees of a message, and its header.
use Rattle.std.specs.Prelude.{◌≡◌, ℕ, List, ◌++◌, length, map}
use Rattle.octseq.specs.Window.{left}
use Rattle.octseq_dns.specs.Entry.{Question, Record}
use Rattle.octseq_dns.specs.Header.{flag_bits}
use Rattle.octseq_dns.specs.Message.{IsMessage}
use Rattle.octseq_dns_message.specs.declared.header.Header.{Header}
use Rattle.octseq_c.specs.declared.header.DnsHeader.{DnsHeader}
use Rattle.octseq_c.specs.declared.rows.Row.{Row}

-- octets are a message in some way
abbrev pub IsSomeMessage : List ℕ → Type 0
IsSomeMessage octets = (header : Header) × (questions : List Question) × (answers : List Record)
    × (authorities : List Record) × (additionals : List Record)
    × IsMessage octets header questions answers authorities additionals

-- The octets are a message, and this is its header.
pub record HasMessageHeader (octets : List ℕ) (row : DnsHeader) : Type 0 where
  pub header : Header
  pub questions : List Question
  pub answers : List Record
  pub authorities : List Record
  pub additionals : List Record
  pub message : IsMessage octets header questions answers authorities additionals
  pub id : row.id ≡ header.id
  pub flags : row.flags ≡ flag_bits header
  pub qdcount : row.qdcount ≡ length questions
  pub ancount : row.ancount ≡ length answers
  pub nscount : row.nscount ≡ length authorities
  pub arcount : row.arcount ≡ length additionals

-- the row of a question: section 0, and no data
abbrev pub row_of_question : Question → Row
row_of_question q = record {
  name_at = q.qname.place.position;
  data_at = 0;
  data_len = 0;
  ttl = 0;
  rtype = q.qtype;
  class = q.qclass;
  section = 0;
}

-- the row of a record of a section
abbrev pub row_of_record : ℕ → Record → Row
row_of_record section r = record {
  name_at = r.owner.place.position;
  data_at = r.rdata.position;
  data_len = left r.rdata;
  ttl = r.ttl;
  rtype = r.rtype;
  class = r.class;
  section = section;
}

-- the rows of all sections, one after another
abbrev pub rows_of : List Question → List Record → List Record → List Record → List Row
rows_of questions answers authorities additionals = map row_of_question questions ++ (map (row_of_record 1) answers
    ++ (map (row_of_record 2) authorities ++ map (row_of_record 3) additionals))

-- The octets are a message, and these are its rows.
pub record AreRowsOf (octets : List ℕ) (rows : List Row) : Type 0 where
  pub header : Header
  pub questions : List Question
  pub answers : List Record
  pub authorities : List Record
  pub additionals : List Record
  pub message : IsMessage octets header questions answers authorities additionals
  pub rows_are : rows ≡ rows_of questions answers authorities additionals

-- Which octets are a message: RFC 1035, 4.1, and 4.2.2 for their number.
use Rattle.std.specs.Prelude.{◌≡◌, ℕ, ◌≤◌, List, length}
use Rattle.octseq.specs.Window.{Window, left, whole}
use Rattle.octseq_dns_message.specs.Entry.{Question, Record, IsQuestion, IsRecord}
use Rattle.octseq_dns_message.specs.Header.{IsHeader}
use Rattle.octseq_dns_message.specs.declared.header.Header.{Header}
use Rattle.octseq_dns_message.specs.declared.header.HeaderCounts.{HeaderCounts}
use Rattle.octseq_format.specs.Pair.{◌then◌}
use Rattle.octseq_format.specs.Row.{Many}

-- the questions, and the answer, authority and additional records
abbrev pub Entries : Type 0
Entries = List Question × (List Record × (List Record × List Record))

-- as many entries of each section as a header counts, one section after another
abbrev pub AreSections : HeaderCounts → Window → Entries → Window → Type 0
AreSections counts = Many counts.qdcount IsQuestion then Many counts.ancount IsRecord
    then Many counts.nscount IsRecord then Many counts.arcount IsRecord

-- The octets are a message of at most 65,535 octets: a header with its counts, the sections, and nothing after them.
pub record IsMessage (octets : List ℕ) (header : Header) (questions : List Question)
    (answers authorities additionals : List Record) : Type 0 where
  pub size : length octets ≤ 65535
  pub counts : HeaderCounts
  pub past_header : Window
  pub header_is : IsHeader (whole octets) header counts past_header
  pub past_sections : Window
  pub sections_are : AreSections counts past_header (questions, (answers, (authorities, additionals))) past_sections
  pub nothing_after : left past_sections ≡ 0

-- Where reading stops in octets that aren't a message: at the first part that isn't there.
use Rattle.std.specs.Prelude.{◌≡◌, ℕ, zero, suc, ◌+◌, ◌<◌, ◌≤◌, ◌⊎◌, List, length}
use Rattle.octseq.specs.Window.{Window, whole}
use Rattle.octseq_dns_message.specs.Entry.{Question, Record, IsQuestion, IsRecord}
use Rattle.octseq_dns_message.specs.Header.{IsHeader}
use Rattle.octseq_dns_message.specs.declared.header.Header.{Header}
use Rattle.octseq_dns_message.specs.declared.header.HeaderCounts.{HeaderCounts}

-- The offset of the first of this many records that isn't one, from a window on, or what follows the last.
abbrev pub RecordsStop : ℕ → Window → ℕ → Type 0
RecordsStop zero w offset = offset ≡ w.position
RecordsStop (suc count) w offset =
    ((record_is : Record) × (v : Window) × IsRecord w record_is v × RecordsStop count v offset)
    ⊎ (((record_is : Record) (v : Window) → ¬ IsRecord w record_is v) × (offset ≡ w.position))

-- the same for this many questions, followed by this many records
abbrev pub QuestionsStop : ℕ → ℕ → Window → ℕ → Type 0
QuestionsStop zero records w offset = RecordsStop records w offset
QuestionsStop (suc count) records w offset =
    ((question : Question) × (v : Window) × IsQuestion w question v × QuestionsStop count records v offset)
    ⊎ (((question : Question) (v : Window) → ¬ IsQuestion w question v) × (offset ≡ w.position))

-- The offset where reading stops: after the 65,535 octets that a message may have; or at the header, if there is none;
-- or at the first question or record that the header counts and that isn't one; or after the last.
abbrev pub IsStop : List ℕ → ℕ → Type 0
IsStop octets offset = ((65535 < length octets) × (offset ≡ 65535))
    ⊎ (((length octets ≤ 65535) × ((header : Header) (counts : HeaderCounts) (v : Window)
    → ¬ IsHeader (whole octets) header counts v) × (offset ≡ 0))
    ⊎ ((length octets ≤ 65535) × (header : Header) × (counts : HeaderCounts) × (v : Window)
    × IsHeader (whole octets) header counts v
    × QuestionsStop counts.qdcount (counts.ancount + counts.nscount + counts.arcount) v offset))

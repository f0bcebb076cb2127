-- How a message is read: a header, four sections, and nothing after them.
use Rattle.std.proofs.Common.{◌≡◌, ℕ, ◌<◌, List, ap, subst, arith}
use Rattle.octseq.specs.Window.{Window, left, whole}
use Rattle.octseq_dns_message.specs.Entry.{Question, Record, IsQuestion, IsRecord}
use Rattle.octseq_dns_message.specs.Header.{IsHeader}
use Rattle.octseq_dns_message.specs.Message.{Entries, AreSections, IsMessage}
use Rattle.octseq_dns_message.specs.OneEntry.{one_question, one_record}
use Rattle.octseq_dns_message.specs.declared.header.Header.{Header}
use Rattle.octseq_dns_message.specs.declared.header.HeaderCounts.{HeaderCounts}
use Rattle.octseq_dns_message.proofs.Headers.{one_header}
use Rattle.octseq_format.specs.Laws.{Relation, IsOne, NoneAt}
use Rattle.octseq_format.specs.Pair.{◌then◌, ◌one_then◌}
use Rattle.octseq_format.specs.Row.{Many, one_many}
use Rattle.octseq_format.proofs.Nones.{none_first, none_second}

-- no header and sections make these octets a message
abbrev pub Refuses : List ℕ → Type 0
Refuses octets = (header : Header) (questions : List Question) (answers authorities additionals : List Record)
    → IsMessage octets header questions answers authorities additionals → ⊥

-- ---- at most one list of sections is at a place

one_records : (n : ℕ) → IsOne (Many n IsRecord)
one_records n = one_many n IsRecord one_record

-- the sections that a header counts are at a place in at most one way, with one end
pub one_sections : (counts : HeaderCounts) → IsOne (AreSections counts)
one_sections counts = one_many counts.qdcount IsQuestion one_question one_then one_records counts.ancount
    one_then one_records counts.nscount one_then one_records counts.arcount

-- the sections of a message follow the header at its front, and are as many as it counts
same_sections : (octets : List ℕ) (h k : Header) (counts : HeaderCounts) (q : List Question) (a b d : List Record)
    (v : Window) → IsHeader (whole octets) h counts v → (m : IsMessage octets k q a b d)
    → AreSections counts v (q, (a, (b, d))) m.past_sections
same_sections octets h k counts q a b d v is m =
    let same = one_header (whole octets) k h m.counts counts m.past_header v m.header_is is in
    subst (λ u. AreSections counts u (q, (a, (b, d))) m.past_sections) same.2
    (subst (λ n. AreSections n m.past_header (q, (a, (b, d))) m.past_sections) same.1 m.sections_are)

-- ---- what isn't a message

-- no header with its counts is at a window's position
abbrev pub NoHeader : Window → Type 0
NoHeader w = (h : Header) (counts : HeaderCounts) (v : Window) → IsHeader w h counts v → ⊥

-- no header
pub no_header : (octets : List ℕ) → NoHeader (whole octets) → Refuses octets
no_header octets none k q a b d m = none k m.counts m.past_header m.header_is

-- no sections after it
no_sections : (octets : List ℕ) (h : Header) (counts : HeaderCounts) (v : Window)
    → IsHeader (whole octets) h counts v → NoneAt (AreSections counts) v → Refuses octets
no_sections octets h counts v is none k q a b d m = none (q, (a, (b, d))) m.past_sections
    (same_sections octets h k counts q a b d v is m)

-- the sections after the questions, and after the answers
abbrev AreRecords : HeaderCounts → Relation (List Record × (List Record × List Record))
AreRecords counts = Many counts.ancount IsRecord then Many counts.nscount IsRecord then Many counts.arcount IsRecord

abbrev AreLater : HeaderCounts → Relation (List Record × List Record)
AreLater counts = Many counts.nscount IsRecord then Many counts.arcount IsRecord

module _ (octets : List ℕ) (h : Header) (counts : HeaderCounts) (v : Window) (is : IsHeader (whole octets) h counts v)
  where
    pub no_questions : NoneAt (Many counts.qdcount IsQuestion) v → Refuses octets
    no_questions none = no_sections octets h counts v is
        (none_first (Many counts.qdcount IsQuestion) (AreRecords counts) v none)

    module _ (q : List Question) (x : Window) (asked : Many counts.qdcount IsQuestion v q x) where
      none_after_questions : NoneAt (AreRecords counts) x → Refuses octets
      none_after_questions none = no_sections octets h counts v is
          (none_second (Many counts.qdcount IsQuestion) (AreRecords counts) v x q
          (one_many counts.qdcount IsQuestion one_question) asked none)

      pub no_answers : NoneAt (Many counts.ancount IsRecord) x → Refuses octets
      no_answers none = none_after_questions (none_first (Many counts.ancount IsRecord) (AreLater counts) x none)

      module _ (a : List Record) (y : Window) (answered : Many counts.ancount IsRecord x a y) where
        none_after_answers : NoneAt (AreLater counts) y → Refuses octets
        none_after_answers none = none_after_questions
            (none_second (Many counts.ancount IsRecord) (AreLater counts) x y a (one_records counts.ancount) answered
            none)

        pub no_authorities : NoneAt (Many counts.nscount IsRecord) y → Refuses octets
        no_authorities none = none_after_answers
            (none_first (Many counts.nscount IsRecord) (Many counts.arcount IsRecord) y none)

        pub no_additionals : (b : List Record) (z : Window) → Many counts.nscount IsRecord y b z
            → NoneAt (Many counts.arcount IsRecord) z → Refuses octets
        no_additionals b z authorized none = none_after_answers
            (none_second (Many counts.nscount IsRecord) (Many counts.arcount IsRecord) y z b
            (one_records counts.nscount) authorized none)

-- octets after the sections
pub some_after : (octets : List ℕ) (h : Header) (counts : HeaderCounts) (v end : Window) (s : Entries)
    → IsHeader (whole octets) h counts v → AreSections counts v s end → 0 < left end → Refuses octets
some_after octets h counts v end s is are some k q a b d m =
    let same = (one_sections counts).same v (q, (a, (b, d))) s m.past_sections end
    (same_sections octets h k counts q a b d v is m) are in
    let left_is = ap left same.1 in
    let none = m.nothing_after in
    omega (arith, left_is, none, some)

-- ---- octets are a message in at most one way

-- readings of octets as a message agree on the header, and on the entries of each section
pub said_once : (octets : List ℕ) (h k : Header) (q others : List Question) (a b d x y z : List Record)
    → IsMessage octets h q a b d → IsMessage octets k others x y z
    → (h ≡ k) × (q ≡ others) × (a ≡ x) × (b ≡ y) × (d ≡ z)
said_once octets h k q others a b d x y z m n =
    let begun = one_header (whole octets) h k m.counts n.counts m.past_header n.past_header m.header_is n.header_is in
    let are = same_sections octets k h n.counts q a b d n.past_header n.header_is m in
    let same = (one_sections n.counts).same n.past_header (q, (a, (b, d))) (others, (x, (y, z))) m.past_sections
    n.past_sections are n.sections_are in
    (begun.0, ap (λ s. s.0) same.0, ap (λ s. s.1.0) same.0, ap (λ s. s.1.1.0) same.0, ap (λ s. s.1.1.1) same.0)

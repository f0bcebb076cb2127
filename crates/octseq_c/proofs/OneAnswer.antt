-- For given flags and rows, a message is answered in one way.
use Rattle.std.proofs.Common.{◌≡◌, ℕ, true, ◌<◌, List, [], ◌∷◌, ◌++◌, length, refl, sym, ap, ◌∙◌, subst, arith}
use Rattle.std.specs.List.{AllZip}
use Rattle.octseq.specs.Integer.{octets_be}
use Rattle.octseq.specs.Window.{at, nested, whole}
use Rattle.octseq_dns.specs.Contents.{Message, Record, header_octets, message_octets}
use Rattle.octseq_dns.specs.Entry as entry
use Rattle.octseq_dns.specs.Header.{IsHeader, flag_bits}
use Rattle.octseq_dns.specs.Message.{IsMessage}
use Rattle.octseq_dns.specs.OneName.{one_name}
use Rattle.octseq_dns.specs.Rdata.{bare_rdata, rdata_fields}
use Rattle.octseq_dns.proofs.HeaderRead.{FitCounts, header_is_read}
use Rattle.octseq_dns.proofs.Stages.{of_sections}
use Rattle.octseq_dns_data.proofs.Rdata.{one_said}
use Rattle.octseq_dns_message.proofs.Headers.{one_header}
use Rattle.octseq_dns_message.proofs.Messages.{said_once}
use Rattle.octseq_dns_message.specs.declared.header.Header.{Header}
use Rattle.octseq_dns_message.specs.declared.header.HeaderCounts.{HeaderCounts}
use Rattle.octseq_c.specs.Made.{IsAnswer, IsAnswerHeader, IsAnswerOf, IsRecordAt, offsets_kept}
use Rattle.octseq_c.specs.declared.rows.Row.{Row}

-- ---- a record

-- a row has one record
pub one_record : (source : List ℕ) (row : Row) (a b : Record) → IsRecordAt source row a → IsRecordAt source row b
    → a ≡ b
one_record source row a b is other =
    let offset = at row.name_at (whole source) in
    let inside = at row.data_at (whole source) in
    let labels = (one_name offset is.name.end other.name.end is.labels other.labels is.name.name other.name.name).0 in
    let said = one_said row.rtype row.class inside (nested row.data_len inside) is.rdata other.rdata is.data_is.says
    other.data_is.says in
    is.is
    ∙ (λ i. record {
      labels = labels i;
      rtype = row.rtype;
      class = row.class;
      ttl = row.ttl;
      fields = rdata_fields (bare_rdata (said i));
    })
    ∙ sym other.is

one_row : (source : List ℕ) (rows : List Row) (written others : List Record) → AllZip (IsRecordAt source) rows written
    → AllZip (IsRecordAt source) rows others → written ≡ others
one_row source [] [] [] a b = refl
one_row source (row ∷ rows) (x ∷ written) (y ∷ others) a b =
    ap (λ x. x ∷ written) (one_record source row x y a.0 b.0) ∙ ap (λ more. y ∷ more)
    (one_row source rows written others a.1 b.1)
one_row source rows written others a b = absurd (assumption (a, b))

-- ---- a header

no_counts : HeaderCounts
no_counts = record { qdcount = 0; ancount = 0; nscount = 0; arcount = 0 }

-- the flags and the response code follow from their number
one_meant : (a b : Header) → a.opcode < 16 → b.opcode < 16 → a.rcode < 16 → b.rcode < 16 → flag_bits a ≡ flag_bits b
    → ◌≡◌ {A = Header} (record a { id = 0 }) (record b { id = 0 })
unfolding no_counts
one_meant a b o p r s is =
    let h : Header = record a { id = 0 } in
    let k : Header = record b { id = 0 } in
    let same : header_octets k no_counts ≡ header_octets h no_counts =
    ap (λ n. octets_be 2 0 ++ (octets_be 2 n ++ (octets_be 2 0 ++ (octets_be 2 0 ++ (octets_be 2 0 ++ octets_be 2 0)))))
    (sym is) in
    let small : FitCounts no_counts = record {
      qdcount = omega arith;
      ancount = omega arith;
      nscount = omega arith;
      arcount = omega arith;
    } in
    let here = header_is_read h no_counts [] (record { id = omega arith; opcode = o; rcode = r }) small in
    let there = header_is_read k no_counts [] (record { id = omega arith; opcode = p; rcode = s }) small in
    (one_header _ h k no_counts no_counts _ _ here (subst (λ octets. let all = whole (octets ++ []) in
    IsHeader all k no_counts (at (length octets) all)) same there)).0

pub one_answer_header : (asked : Header) (flags : ℕ) (a b : Header) → IsAnswerHeader asked flags a
    → IsAnswerHeader asked flags b → a ≡ b
one_answer_header asked flags a b is other =
    let same = one_meant is.meant other.meant is.opcode other.opcode is.rcode other.rcode
    (is.flags_are ∙ sym other.flags_are) in
    is.is
    ∙ (λ i. record {
      id = asked.id;
      flags = record (same i).flags { qr = true; rd = asked.flags.rd };
      opcode = asked.opcode;
      rcode = (same i).rcode;
    })
    ∙ sym other.is

-- ---- a message

module _ (asked : Header) (flags : ℕ) (questions : List entry.Question) (source : List ℕ) (rows : List Row) where
  pub one_contents : (m n : Message) → IsAnswerOf asked flags questions source rows m
      → IsAnswerOf asked flags questions source rows n → m ≡ n
  one_contents m n a b =
      let headers = one_answer_header asked flags m.header n.header a.header_is b.header_is in
      let asks = a.questions_are ∙ sym b.questions_are in
      let here = a.records_are in
      let there = b.records_are in
      let first = one_row source _ _ _ here.answers_are there.answers_are in
      let second = one_row source _ _ _ here.authorities_are there.authorities_are in
      let third = one_row source _ _ _ here.additionals_are there.additionals_are in
      λ i. of_sections (headers i) (asks i) (first i) (second i) (third i)

  -- an answer to octets is an answer to the message that they are
  pub answer_of : (query : List ℕ) (answers authorities additionals : List entry.Record) (made : List ℕ)
      → IsMessage query asked questions answers authorities additionals → IsAnswer query flags source rows made
      → (m : Message) × IsAnswerOf asked flags questions source rows m × (made ≡ message_octets offsets_kept m)
  answer_of query answers authorities additionals made is answered =
      let same = said_once query answered.asked asked answered.questions questions answered.answers
      answered.authorities answered.additionals answers authorities additionals answered.message is in (
        answered.contents,
        subst (λ asked. IsAnswerOf asked flags questions source rows answered.contents) same.0
            (subst (λ questions. IsAnswerOf answered.asked flags questions source rows answered.contents) same.1
            answered.is),
        answered.made_is,
      )

-- in one way
pub one_answer : (query : List ℕ) (flags : ℕ) (source : List ℕ) (rows : List Row) (made other : List ℕ)
    → IsAnswer query flags source rows made → IsAnswer query flags source rows other → made ≡ other
one_answer query flags source rows made other a b =
    let m = answer_of a.asked flags a.questions source rows query a.answers a.authorities a.additionals other a.message
    b in
    a.made_is
    ∙ ap (message_octets offsets_kept) (one_contents a.asked flags a.questions source rows a.contents m.0 a.is m.1)
    ∙ sym m.2

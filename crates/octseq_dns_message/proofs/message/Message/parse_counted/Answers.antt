use Rattle.std.proofs.Common.{◌≡◌, ℕ, List, ap, refl, subst, arith}
use Rattle.octseq.specs.Parser.{window}
use Rattle.octseq.specs.Window.{Window, at, left, whole}
use Rattle.octseq_dns_data.specs.Format.{IsNumber}
use Rattle.octseq_dns_message.specs.Entry.{IsQuestion, IsRecord}
use Rattle.octseq_dns_message.specs.Header.{IsHeader, header_numbers}
use Rattle.octseq_dns_message.specs.Parsed.{fields_of}
use Rattle.octseq_dns_message.specs.OneEntry.{one_question, one_record, question_code, record_code}
use Rattle.octseq_dns_message.specs.declared.header.Header.{Header}
use Rattle.octseq_dns_message.specs.declared.header.HeaderCounts.{HeaderCounts}
use Rattle.octseq_dns_message.proofs.Formats.{IsAt, at_place, held_at, next_at}
use Rattle.octseq_dns_message.proofs.Formats.{onward_number, onward_question, onward_record, row_at}
use Rattle.octseq_dns_message.proofs.Messages.{no_header, no_questions, no_answers, no_authorities, no_additionals}
use Rattle.octseq_dns_message.proofs.Messages.{some_after, NoHeader}
use Rattle.octseq_format.specs.Row.{Many, Row}
use Rattle.octseq_dns_message.proofs.message.Message.parse_counted.Goals as goal

pub returns-in_err-header-clause-malformed : goal.returns-in_err-header-clause-malformed
returns-in_err-header-clause-malformed g c = λ _.
    no_header (g.R.AsOctets.content c.args.octets) (subst NoHeader c.from_ref-parser.ensures.window
    (c.in_err-header.ensures.malformed refl))

pub returns-in_err-read_questions-clause-malformed : goal.returns-in_err-read_questions-clause-malformed
returns-in_err-read_questions-clause-malformed g c = λ _.
    let v = window c.parse.new.parser in
    let h = fields_of c.in_ok-header.header in
    let counts = c.in_ok-header.header.counts in
    let is = subst (λ w. IsHeader w h counts v) c.from_ref-parser.ensures.window c.in_ok-header.ensures.header in
    no_questions (g.R.AsOctets.content c.args.octets) h counts v is (c.in_err-read_questions.ensures.malformed refl)

pub returns-in_err-read_records-clause-malformed : goal.returns-in_err-read_records-clause-malformed
returns-in_err-read_records-clause-malformed g c = λ _.
    let v = window c.parse.new.parser in
    let h = fields_of c.in_ok-header.header in
    let counts = c.in_ok-header.header.counts in
    let is = subst (λ w. IsHeader w h counts v) c.from_ref-parser.ensures.window c.in_ok-header.ensures.header in
    let asked = c.in_ok-read_questions.ensures.all in
    no_answers (g.R.AsOctets.content c.args.octets) h counts v is asked.0 (window c.read_questions.new.parser) asked.1
    (c.in_err-read_records.ensures.malformed refl)

pub returns-in_err-read_records-2-clause-malformed : goal.returns-in_err-read_records-2-clause-malformed
returns-in_err-read_records-2-clause-malformed g c = λ _.
    let v = window c.parse.new.parser in
    let h = fields_of c.in_ok-header.header in
    let counts = c.in_ok-header.header.counts in
    let is = subst (λ w. IsHeader w h counts v) c.from_ref-parser.ensures.window c.in_ok-header.ensures.header in
    let asked = c.in_ok-read_questions.ensures.all in
    let answered = c.in_ok-read_records.ensures.all in
    no_authorities (g.R.AsOctets.content c.args.octets) h counts v is asked.0
    (window c.read_questions.new.parser) asked.1 answered.0 (window c.read_records.new.parser) answered.1
    (c.in_err-read_records-2.ensures.malformed refl)

pub returns-in_err-read_records-3-clause-malformed : goal.returns-in_err-read_records-3-clause-malformed
returns-in_err-read_records-3-clause-malformed g c = λ _.
    let v = window c.parse.new.parser in
    let h = fields_of c.in_ok-header.header in
    let counts = c.in_ok-header.header.counts in
    let is = subst (λ w. IsHeader w h counts v) c.from_ref-parser.ensures.window c.in_ok-header.ensures.header in
    let asked = c.in_ok-read_questions.ensures.all in
    let answered = c.in_ok-read_records.ensures.all in
    let authorized = c.in_ok-read_records-2.ensures.all in
    no_additionals (g.R.AsOctets.content c.args.octets) h counts v is asked.0
    (window c.read_questions.new.parser) asked.1 answered.0 (window c.read_records.new.parser) answered.1
    authorized.0 (window c.read_records-2.new.parser) authorized.1 (c.in_err-read_records-3.ensures.malformed refl)

pub returns-then-remaining-gt0-clause-malformed : goal.returns-then-remaining-gt0-clause-malformed
returns-then-remaining-gt0-clause-malformed g c = λ _.
    let v = window c.parse.new.parser in
    let h = fields_of c.in_ok-header.header in
    let counts = c.in_ok-header.header.counts in
    let is = subst (λ w. IsHeader w h counts v) c.from_ref-parser.ensures.window c.in_ok-header.ensures.header in
    let asked = c.in_ok-read_questions.ensures.all in
    let answered = c.in_ok-read_records.ensures.all in
    let authorized = c.in_ok-read_records-2.ensures.all in
    let added = c.in_ok-read_records-3.ensures.all in
    let rest = c.remaining-2.ensures.left in
    let more = c.if-remaining-gt0.true in
    some_after (g.R.AsOctets.content c.args.octets) h counts v (window c.read_records-3.new.parser) (
      asked.0,
      (answered.0, (authorized.0, added.0)),
    ) is (
      window c.read_questions.new.parser,
      asked.1,
      (
        window c.read_records.new.parser,
        answered.1,
        (window c.read_records-2.new.parser, authorized.1, added.1),
      ),
    )
    (omega (arith, rest, more))

-- ---- the offsets of the sections

-- the parser after a header
after_header : (octets : List ℕ) (u w : Window) (h : Header) (counts : HeaderCounts) → u ≡ whole octets
    → IsHeader u h counts w → IsAt octets w
after_header octets u w h counts same is =
    row_at onward_number (whole octets) (header_numbers h counts) w (omega arith)
    (subst (λ u. Row (IsNumber 2) u (header_numbers h counts) w) same is.numbers)

pub invariant_of-result : goal.invariant_of-result
invariant_of-result g c =
    let octets = g.R.AsOctets.content c.args.octets in
    let counts = c.in_ok-header.header.counts in
    let asked = c.in_ok-read_questions.ensures.all in
    let answered = c.in_ok-read_records.ensures.all in
    let authorized = c.in_ok-read_records-2.ensures.all in
    let added = c.in_ok-read_records-3.ensures.all in
    let x = window c.read_questions.new.parser in
    let y = window c.read_records.new.parser in
    let z = window c.read_records-2.new.parser in
    let end = window c.read_records-3.new.parser in
    let p1 = after_header octets _ (window c.parse.new.parser) _ counts c.from_ref-parser.ensures.window
    c.in_ok-header.ensures.header in
    let p2 = next_at onward_question octets _ asked.0 x p1 asked.1.1 in
    let p3 = next_at onward_record octets _ answered.0 y p2 answered.1.1 in
    let p4 = next_at onward_record octets _ authorized.0 z p3 authorized.1.1 in
    let e1 = at_place octets _ c.pos-questions.result p1 c.pos-questions.ensures.position in
    let e2 = at_place octets _ c.pos-answers.result p2 c.pos-answers.ensures.position in
    let e3 = at_place octets _ c.pos-authorities.result p3 c.pos-authorities.ensures.position in
    let e4 = at_place octets _ c.pos-additionals.result p4 c.pos-additionals.ensures.position in
    record {
      asked = (asked.0, ∣ (x, subst (λ w. Many counts.qdcount IsQuestion w asked.0 x) e1 asked.1) ∣₁);
      answered = (answered.0, ∣ (y, subst (λ w. Many counts.ancount IsRecord w answered.0 y) e2 answered.1) ∣₁);
      authorized = (
        authorized.0,
        ∣ (z, subst (λ w. Many counts.nscount IsRecord w authorized.0 z) e3 authorized.1) ∣₁,
      );
      added = (added.0, ∣ (end, subst (λ w. Many counts.arcount IsRecord w added.0 end) e4 added.1) ∣₁);
      past_answers = ∣ subst (λ i. i) (λ i. Many counts.ancount IsRecord (e2 i) answered.0 (e3 i)) answered.1 ∣₁;
      past_authorities =
          ∣ subst (λ i. i) (λ i. Many counts.nscount IsRecord (e3 i) authorized.0 (e4 i)) authorized.1 ∣₁;
      begun = (let most = p1.1 in omega (arith, most, c.pos-questions.ensures.position));
      passed_questions = (let most = p2.1 in omega (arith, most, c.pos-answers.ensures.position));
      passed_answers = (let most = p3.1 in omega (arith, most, c.pos-authorities.ensures.position));
      passed_authorities = (let most = p4.1 in omega (arith, most, c.pos-additionals.ensures.position));
    }

pub returns-clause-message : goal.returns-clause-message
returns-clause-message g c =
    let octets = g.R.AsOctets.content c.args.octets in
    let h = fields_of c.in_ok-header.header in
    let counts = c.in_ok-header.header.counts in
    let kept = c.result-1.given in
    let asked = c.in_ok-read_questions.ensures.all in
    let answered = c.in_ok-read_records.ensures.all in
    let authorized = c.in_ok-read_records-2.ensures.all in
    let added = c.in_ok-read_records-3.ensures.all in
    let p1 = after_header octets _ (window c.parse.new.parser) _ counts c.from_ref-parser.ensures.window
    c.in_ok-header.ensures.header in
    let p2 = next_at onward_question octets _ asked.0 (window c.read_questions.new.parser) p1 asked.1.1 in
    let p3 = next_at onward_record octets _ answered.0 (window c.read_records.new.parser) p2 answered.1.1 in
    let p4 = next_at onward_record octets _ authorized.0 (window c.read_records-2.new.parser) p3 authorized.1.1 in
    let e1 = at_place octets _ c.pos-questions.result p1 c.pos-questions.ensures.position in
    let e2 = at_place octets _ c.pos-answers.result p2 c.pos-answers.ensures.position in
    let e3 = at_place octets _ c.pos-authorities.result p3 c.pos-authorities.ensures.position in
    let e4 = at_place octets _ c.pos-additionals.result p4 c.pos-additionals.ensures.position in
    let w = window c.parse.new.parser in
    let x = window c.read_questions.new.parser in
    let y = window c.read_records.new.parser in
    let z = window c.read_records-2.new.parser in
    let end = window c.read_records-3.new.parser in
    let q = subst (λ row. Many counts.qdcount IsQuestion w row x)
    (held_at question_code IsQuestion one_question w _ x e1
    counts.qdcount asked.0 kept.0 asked.1) asked.1 in
    let a = subst (λ row. Many counts.ancount IsRecord x row y) (held_at record_code IsRecord one_record x _ y e2
    counts.ancount answered.0 kept.1.0 answered.1) answered.1 in
    let b = subst (λ row. Many counts.nscount IsRecord y row z) (held_at record_code IsRecord one_record y _ z e3
    counts.nscount authorized.0 kept.1.1.0 authorized.1) authorized.1 in
    let d = subst (λ row. Many counts.arcount IsRecord z row end) (held_at record_code IsRecord one_record z _ end e4
    counts.arcount added.0 kept.1.1.1.0 added.1) added.1 in
    let rest = c.remaining-2.ensures.left in
    let none = c.if-remaining-gt0.false in
    let full = ap left c.from_ref-parser.ensures.window in
    let size = c.remaining.ensures.left in
    let small = c.if-remaining-gt-MESSAGE_MAX.false in
    record {
      size = omega (arith, full, size, small);
      counts = counts;
      past_header = w;
      header_is = subst (λ u. IsHeader u h counts w) c.from_ref-parser.ensures.window c.in_ok-header.ensures.header;
      past_sections = end;
      sections_are = (x, q, (y, a, (z, b, d)));
      nothing_after = omega (arith, rest, none);
    }

pub returns-clause-least : goal.returns-clause-least
unfolding returns-clause-message
returns-clause-least g c =
    let row = (returns-clause-message g c).sections_are in
    let q = c.in_ok-read_questions.ensures.least _ _ row.1 in
    let a = c.in_ok-read_records.ensures.least _ _ row.2.1 in
    let b = c.in_ok-read_records-2.ensures.least _ _ row.2.2.1 in
    let d = c.in_ok-read_records-3.ensures.least _ _ row.2.2.2 in
    omega (arith, q, a, b, d)

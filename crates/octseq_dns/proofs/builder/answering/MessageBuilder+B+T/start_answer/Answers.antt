use Rattle.std.proofs.Common.{◌≡◌, ℕ, ◌≤◌, List, [], length, map, refl, sym, ap, ◌∙◌, subst, arith, rules}
use Rattle.std.proofs.lemmas.List.{length-map}
use Rattle.octseq.specs.Limit.{ExceedsLimit, IsWithin}
use Rattle.octseq_dns_compress.specs.Composed.{message_limit}
use Rattle.octseq_dns_compress.specs.State.{State}
use Rattle.octseq_dns_message.specs.Entry as entry
use Rattle.octseq_dns_message.specs.Parsed.{header_of, questions_of}
use Rattle.octseq_dns_message.specs.declared.header.Header.{Header}
use Rattle.octseq_dns_message.specs.declared.header.HeaderCounts.{HeaderCounts}
use Rattle.octseq_dns.specs.Answering.{answer_header, answer_with, answer_to}
use Rattle.octseq_dns.specs.Appended.{Appended}
use Rattle.octseq_dns.specs.Contents.{FitsHeader, FitsQuestion, counts_of, with_only_header, message_octets}
use Rattle.octseq_dns.specs.Contents.{question_entry}
use Rattle.octseq_dns.specs.Labels.{question_labels}
use Rattle.octseq_dns.specs.ReadBack.{bare}
use Rattle.octseq_dns.specs.Rewritten.{IsQuestionOf}
use Rattle.octseq_dns.specs.Writes.{ComposesMessage, NothingYet, least_limit}
use Rattle.octseq_dns.proofs.Blank.{begun_anew}
use Rattle.octseq_dns.proofs.LeastLimit.{past_first, past_second, within_both, within_second}
use Rattle.octseq_dns.proofs.Pushed.{headed_long}
use Rattle.octseq_dns.proofs.Stages.{zip_bare}
use Rattle.octseq_dns.proofs.WrittenWhole.{asked_past, whole_is, whole_written}
use Rattle.octseq_dns.proofs.builder.answering.MessageBuilder+B+T.start_answer.Goals as goal

-- the questions are all that is counted
counted : {counts : HeaderCounts} (h : Header) (qs : List entry.Question) (rcode n : ℕ) → NothingYet counts
    → n ≡ length qs
    → record counts { qdcount = n } ≡ counts_of (answer_with h qs rcode)
counted h qs rcode n none is = λ i. record {
  qdcount = (is ∙ sym (length-map qs bare)) i;
  ancount = none.1 i;
  nscount = none.2 i;
  arcount = none.3 i;
}

writes : {most : ℕ} {first second : State} {header : Header} {counts : HeaderCounts} {from to : ℕ} (h : Header)
    (qs : List entry.Question) (rcode : ℕ) → header ≡ answer_header h rcode
    → counts ≡ counts_of (answer_with h qs rcode) → first ≡ with_only_header header counts → FitsHeader header
    → Appended IsQuestionOf question_entry question_labels FitsQuestion most qs first second from to
    → counts.qdcount ≤ 65535 → ComposesMessage most (answer_with h qs rcode) second header counts
writes h qs rcode header_is counts begun fits asked few =
    let none = ap (λ (c : HeaderCounts). c.ancount) counts in
    let no_more = ap (λ (c : HeaderCounts). c.nscount) counts in
    let nothing = ap (λ (c : HeaderCounts). c.arcount) counts in
    whole_written _ (answer_with h qs rcode) header_is counts begun (asked.is (map bare qs) (zip_bare qs)) refl fits
    (asked.fits (map bare qs) (zip_bare qs)) tt few (omega (arith, none)) (omega (arith, no_more))
    (omega (arith, nothing))

pub returns-in_err-append_questions-clause-short : goal.returns-in_err-append_questions-clause-short
returns-in_err-append_questions-clause-short g c short =
    let message = c.args.message.now in
    let qs = questions_of message in
    let limit = message_limit g.B.AsOctets.limit in
    past_second c.args.self.push_limit limit _ (asked_past _ (answer_to message c.args.rcode)
    (c.answer_header-header.ensures ∙ ap (λ h. answer_header h c.args.rcode) c.header.ensures)
    (counted (header_of message) qs c.args.rcode _ c.self.invariant.1 c.header_counts-qdcount.ensures.qdcount)
    (begun_anew _ _ c.self.invariant c.octets_of.ensures.octets c.put_header.ensures.state) limit
    (c.in_err-append_questions.ensures.short (search (rules, short)) (map bare qs) (zip_bare qs)))

pub returns-then-is_past-clause-short : goal.returns-then-is_past-clause-short
returns-then-is_past-clause-short g c short =
    let message = c.args.message.now in
    let qs = questions_of message in
    let m = answer_to message c.args.rcode in
    let whole = whole_is _ m (c.answer_header-header.ensures ∙ ap (λ h. answer_header h c.args.rcode) c.header.ensures)
    (counted (header_of message) qs c.args.rcode _ c.self.invariant.1 c.header_counts-qdcount.ensures.qdcount)
    (begun_anew _ _ c.self.invariant c.octets_of.ensures.octets c.put_header.ensures.state)
    (c.in_ok-append_questions.ensures.appended.is (map bare qs) (zip_bare qs)) in
    past_first c.args.self.push_limit (message_limit g.B.AsOctets.limit) (length (message_octets g.T.Compressor.most m))
    (subst (λ v. ExceedsLimit v.push_limit (length (message_octets g.T.Compressor.most m))) c.self.view_is
    (subst (ExceedsLimit c.self.inside.push_limit) (ap length c.as_slice.ensures ∙ ap (λ s. length s.octets) whole)
    (c.is_past.ensures.past (search rules))))

pub invariant_of-result : goal.invariant_of-result
invariant_of-result g c =
    let message = c.args.message.now in
    let qs = questions_of message in (
      ∣ (
        answer_to message c.args.rcode,
        writes (header_of message) qs c.args.rcode
            (c.answer_header-header.ensures ∙ ap (λ h. answer_header h c.args.rcode) c.header.ensures)
            (counted (header_of message) qs c.args.rcode _ c.self.invariant.1 c.header_counts-qdcount.ensures.qdcount)
            (begun_anew _ _ c.self.invariant c.octets_of.ensures.octets c.put_header.ensures.state)
            c.octets_of.ensures.fits c.in_ok-append_questions.ensures.appended (omega arith),
      ) ∣₁,
      (c.self.invariant.1.2, c.self.invariant.1.3),
    )

pub returns-clause-written : goal.returns-clause-written
returns-clause-written g c =
    let message = c.args.message.now in
    let qs = questions_of message in
    writes (header_of message) qs c.args.rcode
    (c.answer_header-header.ensures ∙ ap (λ h. answer_header h c.args.rcode) c.header.ensures)
    (counted (header_of message) qs c.args.rcode _ c.self.invariant.1 c.header_counts-qdcount.ensures.qdcount)
    (begun_anew _ _ c.self.invariant c.octets_of.ensures.octets c.put_header.ensures.state) c.octets_of.ensures.fits
    c.in_ok-append_questions.ensures.appended (omega arith)

pub returns-clause-fits : goal.returns-clause-fits
returns-clause-fits g c within =
    let limit = message_limit g.B.AsOctets.limit in
    let in' = c.self.inside in
    let long = headed_long g.T.Compressor.most in'.message.state c.put_header.new.self.state in'.header _ in'.counts _
    NothingYet c.octets_of.result c.self.invariant c.octets_of.ensures.octets c.put_header.ensures.state
    ∙ ap (λ v. length v.state.octets) c.self.view_is in
    let asked = c.in_ok-append_questions.ensures.within
    (subst (IsWithin limit) (sym long) (within_second c.args.self.push_limit limit _ within)) in
    within_both c.args.self.push_limit limit _
    (subst (λ v. IsWithin v.push_limit (length c.append_questions.new.message.state.octets)) c.self.view_is
    (subst (IsWithin in'.push_limit) (ap length c.as_slice.ensures) (c.is_past.ensures.within (search rules)))) asked

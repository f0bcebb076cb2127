use Rattle.std.proofs.Common.{◌≡◌, ◌+◌, ◌<◌, ap, length, sym, subst, rules}
use Rattle.std.proofs.Math.Logic.{∥∥₁_map}
use Rattle.octseq.specs.Limit.{IsWithin}
use Rattle.octseq_dns_compress.specs.Composed.{message_limit}
use Rattle.octseq_dns.specs.Contents.{question_entry}
use Rattle.octseq_dns.specs.Pushed.{pushed_question}
use Rattle.octseq_dns.specs.Sections.{takes_questions}
use Rattle.octseq_dns.specs.Writes.{IsBuilt, UpToQuestions, ComposesMessage, least_limit, more_questions}
use Rattle.octseq_dns.proofs.Pushed.{pushed, pushed_within}
use Rattle.octseq_dns.proofs.builder.questions.QuestionBuilder+B+T.push_question_counted.Goals as goal

pub invariant_of-self : goal.invariant_of-self
invariant_of-self g c =
    let in' = c.self.inside in
    subst (λ s. IsBuilt g.T.Compressor.most s in'.header in'.counts UpToQuestions)
    (sym c.in_err-append_question.ensures.appended.err)
    c.self.invariant

pub invariant_of-self-2 : goal.invariant_of-self-2
invariant_of-self-2 g c =
    let in' = c.self.inside in
    let one = pushed_question c.args.qname.now c.args.qtype c.args.qclass in
    let raised : c.in-Some.qdcount ≡ in'.counts.qdcount + 1 = search rules in
    let less : in'.counts.qdcount < 65535 = search rules in
    let now_is = ap (λ n. record in'.counts { qdcount = n }) raised in (
      ∥∥₁_map c.self.invariant.0 (λ w. (
        more_questions w.0 one,
        pushed takes_questions g.T.Compressor.most w.0 one in'.message.state c.append_question.new.message.state
            c.put_header.new.self.state in'.header in'.counts _ c.octets_of.result w.1 c.self.invariant.1
            c.in_ok-append_question.ensures.fits less now_is c.in_ok-append_question.ensures.appended.ok
            c.octets_of.ensures.octets c.put_header.ensures.state,
      )),
      c.self.invariant.1,
    )

pub returns-clause-written : goal.returns-clause-written
returns-clause-written g c m is =
    let in' = c.self.inside in
    let one = pushed_question c.args.qname.now c.args.qtype c.args.qclass in
    let raised : c.in-Some.qdcount ≡ in'.counts.qdcount + 1 = search rules in
    let less : in'.counts.qdcount < 65535 = search rules in
    let now_is = ap (λ n. record in'.counts { qdcount = n }) raised in
    pushed takes_questions g.T.Compressor.most m one in'.message.state c.append_question.new.message.state
    c.put_header.new.self.state in'.header in'.counts _ c.octets_of.result
    (subst (λ v. ComposesMessage g.T.Compressor.most m v.state v.header v.counts)
    (sym c.self.view_is) is) c.self.invariant.1
    c.in_ok-append_question.ensures.fits less now_is c.in_ok-append_question.ensures.appended.ok
    c.octets_of.ensures.octets c.put_header.ensures.state

pub returns-clause-within : goal.returns-clause-within
returns-clause-within g c =
    let in' = c.self.inside in
    let one = pushed_question c.args.qname.now c.args.qtype c.args.qclass in
    let limit = message_limit g.B.AsOctets.limit in
    subst (λ v. IsWithin (least_limit v.push_limit limit) (length c.put_header.new.self.state.octets)) c.self.view_is
    (pushed_within (least_limit in'.push_limit limit) g.T.Compressor.most in'.message.state
    c.append_question.new.message.state c.put_header.new.self.state in'.header in'.counts (record in'.counts {
      qdcount
          = c.in-Some.qdcount;
    })
    UpToQuestions c.octets_of.result (question_entry one) c.self.invariant
    c.in_ok-append_question.ensures.appended.within
    c.in_ok-append_question.ensures.appended.ok c.octets_of.ensures.octets c.put_header.ensures.state)

use Rattle.std.proofs.Common.{◌≡◌, ◌++◌, ◌∙◌, ap, arith, length, refl, rules}
use Rattle.octseq_dns.specs.Owned.{owned_labels}
use Rattle.octseq_c.specs.Edns.{edns_header, opt_head, question_octets}
use Rattle.octseq_c.proofs.EdnsQueries.{front_is, one_edns_query, query_length}
use Rattle.octseq_c.proofs.Puts.{copied_none, puts_copies, puts_none}
use Rattle.octseq_c.proofs.edns.octseq_dns_query_edns.Goals as goal

pub returns-in_default-try_from-clause-puts : goal.returns-in_default-try_from-clause-puts
returns-in_default-try_from-clause-puts c = puts_none 5 (omega arith) (one_edns_query _ _ _ _ _ _ _ _)

pub returns-then-front-options-gt65535-clause-puts : goal.returns-then-front-options-gt65535-clause-puts
returns-then-front-options-gt65535-clause-puts c = puts_none 5 (omega arith) (one_edns_query _ _ _ _ _ _ _ _)

pub returns-then-front-options-gt65535-clause-too_long : goal.returns-then-front-options-gt65535-clause-too_long
returns-then-front-options-gt65535-clause-too_long c = λ made is.
    let labels = owned_labels c.in-Some.name in
    let header = edns_header c.args.id c.args.flags in
    let question = question_octets labels c.args.qtype c.args.qclass in
    let opt = opt_head c.args.payload c.args.edns_flags in
    let len : c.in-Ok.len ≡ length c.args.options.now = search rules in
    let front = front_is header question (opt c.in-Ok.len) c.edns_front-front.ensures.content
    c.push_question.ensures.content c.push_opt_head.ensures.content c.as_slice-front.ensures.content
    ∙ ap (λ n. (header ++ question) ++ opt n) len in
    let long = c.if-front-options-gt65535.true in
    let same = query_length c.args.id c.args.flags c.args.name.now c.args.qtype c.args.qclass c.args.payload
    c.args.edns_flags c.args.options.now made c.as_slice-front.result.now labels c.in-Some.ensures.some front is in
    (λ e. omega (arith, long, same), λ past. refl)

pub returns-clause-puts : goal.returns-clause-puts
returns-clause-puts c =
    let labels = owned_labels c.in-Some.name in
    let header = edns_header c.args.id c.args.flags in
    let question = question_octets labels c.args.qtype c.args.qclass in
    let opt = opt_head c.args.payload c.args.edns_flags in
    let len : c.in-Ok.len ≡ length c.args.options.now = search rules in
    let front = front_is header question (opt c.in-Ok.len) c.edns_front-front.ensures.content
    c.push_question.ensures.content c.push_opt_head.ensures.content c.as_slice-front.ensures.content
    ∙ ap (λ n. (header ++ question) ++ opt n) len in
    puts_copies (one_edns_query c.args.id c.args.flags c.args.name.now c.args.qtype c.args.qclass c.args.payload
    c.args.edns_flags c.args.options.now) _ (record {
      labels = labels;
      spelled = c.in-Some.ensures.some;
      options_are = c.if-not-are_options.ensures.0 refl;
      made_is = ap (λ front. front ++ c.args.options.now) front;
    }) c.put_both.ensures

pub returns-clause-too_long : goal.returns-clause-too_long
returns-clause-too_long c = λ made is.
    let labels = owned_labels c.in-Some.name in
    let header = edns_header c.args.id c.args.flags in
    let question = question_octets labels c.args.qtype c.args.qclass in
    let opt = opt_head c.args.payload c.args.edns_flags in
    let len : c.in-Ok.len ≡ length c.args.options.now = search rules in
    let front = front_is header question (opt c.in-Ok.len) c.edns_front-front.ensures.content
    c.push_question.ensures.content c.push_opt_head.ensures.content c.as_slice-front.ensures.content
    ∙ ap (λ n. (header ++ question) ++ opt n) len in
    let few = c.if-front-options-gt65535.false in
    let same = query_length c.args.id c.args.flags c.args.name.now c.args.qtype c.args.qclass c.args.payload
    c.args.edns_flags c.args.options.now made c.as_slice-front.result.now labels c.in-Some.ensures.some front is in (
      λ e. absurd (copied_none 5 (omega arith) c.put_both.ensures e),
      λ past. absurd (omega (arith, few, same, past)),
    )

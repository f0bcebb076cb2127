use Rattle.std.proofs.Common.{map, refl, subst, Err}
use Rattle.octseq_dns.specs.Answering.{answer_header, answer_to}
use Rattle.octseq_dns.specs.Parsed.{header_of, questions_of}
use Rattle.octseq_dns.specs.ReadBack.{bare}
use Rattle.octseq_c.specs.Made.{IsAnswerHeader, offsets_kept}
use Rattle.octseq_c.proofs.AnswerBegun.{begun_past, begun_written, past_unlimited, short_alone}
use Rattle.octseq_c.proofs.OneAnswer.{one_answer_header}
use Rattle.octseq_c.proofs.answer.begin_answer.Goals as goal

pub returns-in_err-answers-clause-short : goal.returns-in_err-answers-clause-short
returns-in_err-answers-clause-short g c err m are =
    let message = c.args.message.now in
    let refused = c.in_err-answers.ensures in
    begun_past offsets_kept (answer_header (header_of message) c.answer_header-header.result.rcode)
    (map bare (questions_of message)) m are _
    (past_unlimited _ _ _ c.in_ok-begun.ensures.push_limit c.requires.most
    (refused.short (short_alone {T = Unit {0}} (Err c.in_err-answers.field-0.0) refl refused.memory)))

pub returns-clause-written : goal.returns-clause-written
returns-clause-written g c m header are =
    let message = c.args.message.now in
    let made = c.answer_header-header in
    begun_written offsets_kept made.result (map bare (questions_of message)) m are _ _ _
    (one_answer_header (header_of message) c.args.flags made.result m.header
    (subst (λ asked. IsAnswerHeader asked c.args.flags made.result) c.header.ensures made.ensures) header)
    (c.set_header.ensures.written (answer_to message made.result.rcode) c.in_ok-answers.ensures.written)

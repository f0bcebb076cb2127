use Rattle.std.proofs.Common.{arith, ◌≡◌, length}
use Rattle.octseq_dns_message.specs.Parsed.{questions_of}
use Rattle.octseq_dns_message.specs.Said.{question_of}
use Rattle.octseq_dns_message.proofs.Asked.{sole, sole_refused}
use Rattle.octseq_dns_message.proofs.message.Message.sole_question.Goals as goal

pub returns-clause-sole : goal.returns-clause-sole
returns-clause-sole g c =
    let one : length (questions_of c.args.self.now) ≡ 1 =
    let counted = c.header_counts.ensures.qdcount in
    let is = c.if-header_counts-ne1.false in
    omega (arith, counted, is) in
    sole question_of (questions_of c.args.self.now) c.first_question.result c.ok_or.result c.first_question.ensures one
    c.ok_or.ensures.ok_part

pub returns-clause-refused : goal.returns-clause-refused
returns-clause-refused g c =
    sole_refused question_of (questions_of c.args.self.now) c.first_question.result c.ok_or.result
    c.first_question.ensures c.ok_or.ensures.ok_part

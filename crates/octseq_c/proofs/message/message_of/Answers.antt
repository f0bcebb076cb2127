use Rattle.octseq_c.proofs.Puts.{when_err}
use Rattle.octseq_c.proofs.message.message_of.Goals as goal

pub returns-clause-malformed : goal.returns-clause-malformed
returns-clause-malformed c =
    when_err c.parse.result (λ err (header, questions, answers, authorities, additionals, is).
    c.parse.ensures.malformed err header questions answers authorities additionals is)

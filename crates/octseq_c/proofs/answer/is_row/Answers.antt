use Rattle.octseq_c.proofs.answer.is_row.Goals as goal

pub returns-in-Err : goal.returns-in-Err
returns-in-Err c = (λ e. absurd (cc), λ row. absurd (c.in-Err.ensures.malformed row.labels row.name))

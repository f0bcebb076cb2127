use Rattle.std.proofs.Common.{subst}
use Rattle.octseq.specs.Parser.{window}
use Rattle.octseq_c.specs.Fields.{AreTailRows}
use Rattle.octseq_c.proofs.fields.put_tail.Goals as goal

pub returns-in-Strings-clause-none : goal.returns-in-Strings-clause-none
returns-in-Strings-clause-none g c = λ none rows are.
    c.put_strings.ensures.none none rows (subst (λ t. AreTailRows t (window c.args.ahead) rows) c.in-Strings.is are)

pub returns-in-Params-clause-none : goal.returns-in-Params-clause-none
returns-in-Params-clause-none g c = λ none rows are.
    c.put_parameters.ensures.none none rows (subst (λ t. AreTailRows t (window c.args.ahead) rows) c.in-Params.is are)

use Rattle.octseq.specs.Parser.{window}
use Rattle.octseq_format.specs.Stop.{at_second}
use Rattle.octseq_format.proofs.families.WithinFamily.fault_by.Goals as goal

pub returns-in-Ok : goal.returns-in-Ok
returns-in-Ok g c =
    at_second g.N.Number.one (window c.args.parser.now) (window c.parse_number.new.parser) c.in-Ok.len
    c.fault_in_sized.result c.in-Ok.ensures.value c.fault_in_sized.ensures

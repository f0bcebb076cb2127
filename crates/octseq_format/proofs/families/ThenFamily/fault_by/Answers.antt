use Rattle.octseq.specs.Parser.{window}
use Rattle.octseq_format.specs.Stop.{none_second}
use Rattle.octseq_format.proofs.families.ThenFamily.fault_by.Goals as goal

pub fault_by-requires-in-Ok : goal.fault_by-requires-in-Ok
fault_by-requires-in-Ok g c =
    none_second (g.F.Family.is_at c.args.key) (g.G.Family.is_at c.args.key) (window c.args.parser.now)
    (window c.parse_by.new.parser) (g.F.Family.found c.in-Ok._first) c.in-Ok.ensures.value c.requires

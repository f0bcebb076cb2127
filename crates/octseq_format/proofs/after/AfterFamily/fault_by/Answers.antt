use Rattle.octseq.specs.Parser.{window}
use Rattle.octseq_format.specs.Stop.{none_second}
use Rattle.octseq_format.proofs.after.AfterFamily.fault_by.Goals as goal

pub fault_by-requires : goal.fault_by-requires
fault_by-requires g c =
    none_second g.A.Format.is_at (g.F.Family.is_at c.args.key) (window c.args.parser.now) (window c.parse.new.parser)
    (g.A.Format.found c.in-Ok._first) c.in-Ok.ensures.value c.requires

use Rattle.octseq.specs.Parser.{window}
use Rattle.octseq_format.specs.Stop.{none_second}
use Rattle.octseq_format.proofs.tuples.Tuple2Format.fault.Goals as goal

pub fault-requires-in-Ok : goal.fault-requires-in-Ok
fault-requires-in-Ok g c =
    none_second g.A.Format.is_at g.B.Format.is_at (window c.args.parser.now) (window c.parse.new.parser)
    (g.A.Format.found c.in-Ok._first) c.in-Ok.ensures.value c.requires

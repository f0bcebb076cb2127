use Rattle.octseq.specs.Parser.{window}
use Rattle.octseq_format.specs.Stop.{none_optional}
use Rattle.octseq_format.proofs.optional.OptionalFormat.fault.Goals as goal

pub fault-requires : goal.fault-requires
fault-requires g c = none_optional g.A.Format.is_at (window c.args.parser.now) c.requires

use Rattle.octseq.specs.Parser.{window}
use Rattle.octseq_format.specs.Stop.{none_other}
use Rattle.octseq_format.proofs.family.OthersFamily.fault_by.Goals as goal

pub fault-requires : goal.fault-requires
fault-requires g c = none_other g.F.Format.is_at (window c.args.parser.now) c.args._key c.requires

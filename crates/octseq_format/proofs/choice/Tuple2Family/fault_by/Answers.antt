use Rattle.std.proofs.Common.{refl}
use Rattle.octseq.specs.Parser.{window}
use Rattle.octseq_format.specs.Stop.{none_first, none_other_family}
use Rattle.octseq_format.proofs.choice.Tuple2Family.fault_by.Goals as goal

pub fault_by-requires : goal.fault_by-requires
fault_by-requires g c =
    let a = g.A.Family in
    none_first a.covers a.is_at g.B.Family.is_at (window c.args.parser.now) c.args.key
    (c.has_format.ensures.yes c.if-has_format.true) c.requires

pub fault_by-requires-else-has_format : goal.fault_by-requires-else-has_format
fault_by-requires-else-has_format g c =
    let a = g.A.Family in
    none_other_family a.covers a.is_at g.B.Family.is_at (window c.args.parser.now) c.args.key
    (c.has_format.ensures.no c.if-has_format.false) c.requires

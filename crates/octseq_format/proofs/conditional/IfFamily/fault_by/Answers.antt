use Rattle.std.proofs.Common.{◌∙◌, sym}
use Rattle.octseq.specs.Parser.{window}
use Rattle.octseq_format.specs.Stop.{none_if}
use Rattle.octseq_format.proofs.conditional.IfFamily.fault_by.Goals as goal

pub fault-requires : goal.fault-requires
fault-requires g c =
    none_if g.F.Format.is_at g.S.Switch.on (window c.args.parser.now) c.args.key
    (sym c.is_on.ensures ∙ c.if-is_on.true) c.requires

use Rattle.octseq.specs.Parser.{window}
use Rattle.octseq_format.specs.Stop.{none_tagged}
use Rattle.octseq_format.proofs.tagged.TaggedFormat.fault.Goals as goal

pub fault_by-requires : goal.fault_by-requires
fault_by-requires g c =
    none_tagged g.N.Number.is_at g.F.Family.is_at (window c.args.parser.now) (window c.parse_number.new.parser)
    c.in-Ok.number c.in-Ok.ensures.value c.requires

use Rattle.octseq.specs.Parser.{window}
use Rattle.octseq_format.specs.Until.{none_item}
use Rattle.octseq_format.proofs.until.fault_of_item.Goals as goal

pub fault_by-requires : goal.fault_by-requires
fault_by-requires g c =
    none_item g.row.END g.F.Family.is_at g.N.Number.one (window c.args.parser.now) (window c.parse_number.new.parser)
    c.in-Ok.number c.in-Ok.ensures.value c.requires

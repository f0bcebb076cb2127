use Rattle.octseq.specs.Parser.{window}
use Rattle.octseq_tool.proofs.Records.{whole_part, cut_part}
use Rattle.octseq_tool.proofs.engine.records.next_part.Goals as goal

pub returns-clause-ok : goal.returns-clause-ok
returns-clause-ok c =
    let said = c.parse_part_u8.ensures in
    whole_part c.parse_part_u8.result window (window c.args.parser.now) (window c.parse_part_u8.new.self)
    c.args.parser.now.within
    said.taken.variant said.taken.ok said.window c.nothing_is_lost.ensures

pub returns-clause-err : goal.returns-clause-err
returns-clause-err c =
    cut_part c.parse_part_u8.result (window c.args.parser.now) c.args.parser.now.within
    c.parse_part_u8.ensures.taken.variant

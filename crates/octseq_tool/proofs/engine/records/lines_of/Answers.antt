use Rattle.octseq.specs.Parser.{window}
use Rattle.octseq.specs.Window.{rest}
use Rattle.octseq_tool.specs.Out.{HasText}
use Rattle.octseq_tool.proofs.Records.{read_more}
use Rattle.octseq_tool.proofs.engine.records.lines_of.Goals as goal

pub loop-parser-preserved : goal.loop-parser-preserved
loop-parser-preserved c =
    let line = c.in_ok-push_line-in-Ok.ensures in
    let has : HasText (rest (window c.in-Ok.part)) line.0 = rw c.peek_all.ensures.content at line.1 in
    read_more c.args.input.now _ _ (rest (window c.in-Ok.part)) line.0 c.loop-parser.output.items _
    c.loop-parser.invariant c.in-Ok.ensures.ok has line.2

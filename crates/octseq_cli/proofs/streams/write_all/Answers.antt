use Rattle.octseq_cli.proofs.Writing.{written_more}
use Rattle.octseq_cli.proofs.streams.write_all.Goals as goal

pub loop-preserved : goal.loop-preserved
loop-preserved g c =
    written_more _ _ _ c.args.output.now c.loop.rest.now c.in_ok-count.count c.loop.invariant c.in_ok-count.ensures.ok.1

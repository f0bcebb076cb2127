use Rattle.std.proofs.Common.{arith}
use Rattle.octseq_utf8.proofs.Search.{passes_on, search_word}
use Rattle.octseq_utf8.proofs.finder.skip_run.Goals as goal

pub loop-at-preserved : goal.loop-at-preserved
loop-at-preserved g c =
    rw c.tick.ensures
    (passes_on c.loop-at.invariant (omega arith)
    (search_word c.args.octets.now _ c.loop-at.at c.loop-at.turns g.row.LEN
    (omega (arith, c.saturating_sub-words.ensures))
    c.word_at.ensures c.requires.len (c.begins.ensures c.if-begins.true)))

use Rattle.octseq_c.proofs.SettledTexts.{WritesTo}
use Rattle.octseq_c.proofs.settled.fill.Given as goal

abbrev pub invariant-loop-chunk : goal.invariant-loop-chunk
invariant-loop-chunk l = WritesTo l.fn.octets l.chunk-iterator l.fn.before l.fn.out l.out l.at

use Rattle.std.proofs.Common.{◌<◌, ◌^◌}
use Rattle.octseq_c.proofs.SettledTexts.{ReadsTo}
use Rattle.octseq_c.proofs.settled.measure.Given as goal

abbrev pub invariant-loop-chunk : goal.invariant-loop-chunk
invariant-loop-chunk l = record {
  read : ReadsTo l.fn.octets l.chunk-iterator l.fn.before l.text_len;
  fits : l.text_len < 2 ^ 64;
}

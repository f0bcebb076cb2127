use Rattle.std.proofs.Common.{◌+◌, ◌*◌, ◌≤◌, length}
use Rattle.octseq_core.specs.Limit.{IsWithin}
use Rattle.octseq_utf8.specs.Reading.{parts_of}
use Rattle.octseq_text.specs.Progress.{HasReadParts}
use Rattle.octseq_text.proofs.str.pieces.settle.Given as goal

abbrev pub invariant-loop-chunk : goal.invariant-loop-chunk
invariant-loop-chunk g l = record {
  read : HasReadParts l.fn.octets l.chunks (g.B.AsOctets.content l.fn.text) (g.B.AsOctets.content l.text);
  within : IsWithin g.B.AsOctets.limit (length (g.B.AsOctets.content l.text));
  turns : l.turns + length (parts_of l.chunks) ≤ l.fn.turns + length (parts_of l.fn.octets);
  passed : length l.fn.octets + 16 * l.fn.turns ≤ 16 * l.turns + length l.chunks;
  kept : l.fn.turns ≤ l.turns;
}

abbrev pub decreases-loop-chunk : goal.decreases-loop-chunk
decreases-loop-chunk g l = length l.chunks

use Rattle.std.proofs.Common.{◌≡◌, ◌+◌, ◌*◌, ◌≤◌, ◌++◌, length}
use Rattle.octseq_utf8.specs.Chunk.{chunk_text}
use Rattle.octseq_utf8.specs.Parts.{StartsWith, text_with}
use Rattle.octseq_utf8.specs.Reading.{parts_of}
use Rattle.octseq_text.proofs.str.lossy.append_chunks.Given as goal

abbrev pub invariant-loop-chunk : goal.invariant-loop-chunk
invariant-loop-chunk g l = record {
  text : (g.B.AsOctets.content l.builder ++ l.staged.content) ++ text_with l.fn.replacement (parts_of l.rest)
      ≡ g.B.AsOctets.content l.fn.builder
      ++ (chunk_text l.fn.replacement l.fn.first ++ text_with l.fn.replacement (parts_of l.fn.rest));
  front : StartsWith (g.B.AsOctets.content l.fn.builder) (g.B.AsOctets.content l.builder);
  borrows : g.B.AsOctets.borrows l.builder ≡ g.B.AsOctets.borrows l.fn.builder;
  turns : l.turns + length (parts_of l.rest) ≤ l.fn.turns + length (parts_of l.fn.rest);
  passed : length l.fn.rest + 16 * l.fn.turns ≤ 16 * l.turns + length l.rest;
  kept : l.fn.turns ≤ l.turns;
  octets : l.octets ≡ l.rest;
}

abbrev pub decreases-loop-chunk : goal.decreases-loop-chunk
decreases-loop-chunk g l = length l.rest

-- The octets were read as the records so far, in the same window, and each turn takes one of the octets that are left.
use Rattle.std.proofs.Common.{◌≡◌, map}
use Rattle.octseq.proofs.Repeats.{IsReadTo}
use Rattle.octseq.specs.Parser.{sequence, window}
use Rattle.octseq.specs.Window.{left, rest}
use Rattle.octseq_callers.proofs.RecordCode.{spelled}
use Rattle.octseq_callers.specs.Record.{IsRecord}
use Rattle.octseq_callers.proofs.records.take_records.Given as goal

abbrev pub invariant-loop-parser : goal.invariant-loop-parser
invariant-loop-parser g l = record {
  read : IsReadTo IsRecord spelled (rest (window l.fn.parser)) (rest (window l.parser))
      (map (λ read. (read.key, g.R.Range.AsOctets.content read.value)) l.records.items);
  limit : (window l.parser).end ≡ (window l.fn.parser).end;
  same : sequence l.parser ≡ sequence l.fn.parser;
}

abbrev pub decreases-loop-parser : goal.decreases-loop-parser
decreases-loop-parser g l = left (window l.parser)

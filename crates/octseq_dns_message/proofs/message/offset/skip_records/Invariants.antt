-- What stops the records that are left stops all of them.
use Rattle.std.proofs.Common.{ℕ}
use Rattle.octseq.specs.Parser.{window}
use Rattle.octseq_dns_message.specs.Stop.{RecordsStop}
use Rattle.octseq_dns_message.proofs.message.offset.skip_records.Given as goal

abbrev pub invariant-loop-left : goal.invariant-loop-left
invariant-loop-left l = (offset : ℕ) → RecordsStop l.left (window l.parser) offset
    → RecordsStop l.count (window l.fn.parser) offset

abbrev pub decreases-loop-left : goal.decreases-loop-left
decreases-loop-left l = l.left

-- What is written, followed by any text of the records ahead, is a text of the records.
use Rattle.std.proofs.Common.{◌++◌, ℕ, List}
use Rattle.std.specs.Fmt.{HasWritten, IsPlainFormatter}
use Rattle.octseq_dns_message.specs.MessageText.{IsRecordsText}
use Rattle.octseq_dns_message.specs.Walk.{records_left}
use Rattle.octseq_dns_message.proofs.message.text.write_records.Given as goal

abbrev pub invariant-loop-entry : goal.invariant-loop-entry
invariant-loop-entry g l = record {
  done : List ℕ;
  written : IsPlainFormatter l.initial.f → HasWritten g.W.Write.write_str_gives l.initial.f done l.f;
  whole : (more : List ℕ) → IsRecordsText l.word (records_left l.entry-iterator) more
      → IsRecordsText l.word (records_left l.fn.records) (done ++ more);
}

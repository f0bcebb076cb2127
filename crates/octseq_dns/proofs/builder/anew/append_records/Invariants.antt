-- What is written for the records so far was appended, and all of these can be moved.
use Rattle.std.proofs.Common.{◌≡◌, ◌≤◌, ◌||◌, length}
use Rattle.std.specs.Prelude.{◌↔◌}
use Rattle.octseq.specs.Limit.{IsWithin}
use Rattle.octseq_dns_compress.specs.Composed.{message_limit}
use Rattle.octseq_dns_message.specs.Listed.{records_ahead}
use Rattle.octseq_dns_message.specs.Parsed.{records_of}
use Rattle.octseq_dns.specs.Contents.{FitsRecord, record_entry}
use Rattle.octseq_dns.specs.Labels.{record_labels}
use Rattle.octseq_dns.specs.Moved.{CanMove}
use Rattle.octseq_dns.specs.Rewritten.{IsRecordOf, any_opt}
use Rattle.octseq_dns.proofs.Onward.{Onward}
use Rattle.octseq_dns.proofs.builder.anew.append_records.Given as goal

abbrev pub invariant-loop-listed : goal.invariant-loop-listed
invariant-loop-listed g l = record {
  on : Onward IsRecordOf record_entry record_labels FitsRecord g.T.Compressor.most (records_of l.fn.source)
      (records_ahead l.listed-iterator) l.fn.message.state l.message.state l.fn.turns l.turns;
  movable : CanMove (records_ahead l.listed-iterator) ↔ CanMove (records_of l.fn.source);
  opt : any_opt (records_of l.fn.source) ≡ (l.has_opt || any_opt (records_ahead l.listed-iterator));
  within : IsWithin (message_limit g.B.AsOctets.limit) (length l.fn.message.state.octets)
      → IsWithin (message_limit g.B.AsOctets.limit) (length l.message.state.octets);
  counted : l.fn.turns ≤ l.turns;
  borrows : g.B.AsOctets.borrows l.message.octets ≡ g.B.AsOctets.borrows l.fn.message.octets;
}

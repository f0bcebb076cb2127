-- If the records ahead can be moved, all can.
use Rattle.std.specs.Prelude.{◌↔◌}
use Rattle.octseq_dns.specs.Moved.{CanMove}
use Rattle.octseq_dns_message.specs.Listed.{records_ahead}
use Rattle.octseq_dns_message.specs.Parsed.{records_of}
use Rattle.octseq_dns.proofs.moved.can_move.Given as goal

abbrev pub invariant-loop-listed : goal.invariant-loop-listed
invariant-loop-listed g l = CanMove (records_ahead l.listed-iterator) ↔ CanMove (records_of l.message)

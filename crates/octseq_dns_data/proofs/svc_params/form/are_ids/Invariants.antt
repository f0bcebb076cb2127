-- What is ahead passes exactly if all does, and a turn was counted for each of the ids before it, at most one for
-- each octet.
use Rattle.std.proofs.Common.{◌+◌, ◌≤◌, length}
use Rattle.octseq.proofs.WrittenBack.{AreOctets}
use Rattle.octseq.specs.Parser.{window}
use Rattle.octseq.specs.Window.{rest}
use Rattle.octseq_dns_data.specs.SvcParams.{ids_of}
use Rattle.octseq_dns_data.proofs.Params.{IdsFrom, Same}
use Rattle.octseq_dns_data.proofs.svc_params.form.are_ids.Given as goal

abbrev pub invariant-ids : goal.invariant-ids
invariant-ids l = record {
  same : Same (IdsFrom tt (rest (window l.ahead))) (IdsFrom tt l.fn.octets);
  each : AreOctets (rest (window l.ahead));
  some : l.fn.turns ≤ l.turns;
  least : l.fn.turns + length (ids_of l.fn.octets) ≤ l.turns + length (ids_of (rest (window l.ahead)));
  turns : l.turns + length (rest (window l.ahead)) ≤ l.fn.turns + length l.fn.octets;
}

abbrev pub decreases-ids : goal.decreases-ids
decreases-ids l = length (rest (window l.ahead))

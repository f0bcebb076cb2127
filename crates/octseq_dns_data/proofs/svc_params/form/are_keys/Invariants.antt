-- What is ahead passes exactly if all does, and a turn was counted for each of the keys before it, at most one for
-- each octet.
use Rattle.std.proofs.Common.{◌+◌, ◌≤◌, length}
use Rattle.octseq.proofs.WrittenBack.{AreOctets}
use Rattle.octseq.specs.Parser.{window}
use Rattle.octseq.specs.Window.{rest}
use Rattle.octseq_dns_data.specs.SvcParams.{keys_of}
use Rattle.octseq_dns_data.proofs.Params.{KeysFrom, Same}
use Rattle.octseq_dns_data.proofs.svc_params.form.are_keys.Given as goal

abbrev pub invariant-keys : goal.invariant-keys
invariant-keys l = record {
  same : Same (KeysFrom l.least (rest (window l.ahead))) (KeysFrom 1 l.fn.octets);
  each : AreOctets (rest (window l.ahead));
  some : l.fn.turns ≤ l.turns;
  least : l.fn.turns + length (keys_of l.fn.octets) ≤ l.turns + length (keys_of (rest (window l.ahead)));
  turns : l.turns + length (rest (window l.ahead)) ≤ l.fn.turns + length l.fn.octets;
}

abbrev pub decreases-keys : goal.decreases-keys
decreases-keys l = length (rest (window l.ahead))

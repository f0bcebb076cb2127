-- What is ahead passes exactly if all does, and the turns of the parameters before it were counted, at most one for
-- each octet.
use Rattle.std.proofs.Common.{◌+◌, ◌≤◌, length}
use Rattle.octseq.proofs.WrittenBack.{AreOctets}
use Rattle.octseq.specs.Parser.{window}
use Rattle.octseq.specs.Window.{rest}
use Rattle.octseq_dns_data.specs.SvcParams.{params_turns}
use Rattle.octseq_dns_data.proofs.Params.{ParamsFrom, Same}
use Rattle.octseq_dns_data.proofs.svc_params.form.is_svc_params.Given as goal

abbrev pub invariant-params : goal.invariant-params
invariant-params l = record {
  same : Same (ParamsFrom l.least (rest (window l.ahead))) (ParamsFrom 0 l.fn.octets);
  each : AreOctets (rest (window l.ahead));
  some : l.fn.turns ≤ l.turns;
  least : l.fn.turns + params_turns l.fn.octets ≤ l.turns + params_turns (rest (window l.ahead));
  turns : l.turns + length (rest (window l.ahead)) ≤ l.fn.turns + length l.fn.octets;
}

abbrev pub decreases-params : goal.decreases-params
decreases-params l = length (rest (window l.ahead))

use Rattle.std.proofs.Common.{◌≡◌, ◌+◌}
use Rattle.octseq_utf8.proofs.turns.Turns.pass.Given as goal

abbrev pub invariant-loop : goal.invariant-loop
invariant-loop l = l.self ≡ l.fn.self + l.counter

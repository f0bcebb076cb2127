-- What is appended after other octets.
use Rattle.std.proofs.Common.{◌≡◌, ◌++◌, ◌∙◌, Bool, List, ℕ, Result, ap, append_assoc}
use Rattle.std.proofs.lemmas.Result.{on_err_weaker, on_ok_weaker}
use Rattle.octseq_bgp.specs.Puts.{AppendsSomeUnlimited}

pub puts_after : {E : Type 0} {asks : Bool} (r : Result (Unit {0}) E) (first second old mid new : List ℕ)
    → mid ≡ old ++ first → AppendsSomeUnlimited asks r second mid new
    → AppendsSomeUnlimited asks r (first ++ second) old new
puts_after r first second old mid new is puts = record {
  ok = on_ok_weaker r (λ said. said ∙ ap (λ o. o ++ second) is ∙ append_assoc old first second) puts.ok;
  front = on_err_weaker r (λ said. (first ++ said.0, said.1 ∙ ap (λ o. o ++ said.0) is ∙ append_assoc old first said.0))
      puts.front;
  memory = puts.memory;
}

use Rattle.std.proofs.Common.{refl}
use Rattle.octseq_format.proofs.RowSteps.{fewer}
use Rattle.octseq_bgp.proofs.capability.CapabilitiesIterator.next.Goals as goal

pub returns-in_default-clause-steps : goal.returns-in_default-clause-steps
returns-in_default-clause-steps g c =
    let none = c.in_default.ensures.none refl c.args.self.now.ahead in (none, none)

pub returns-clause-steps : goal.returns-clause-steps
returns-clause-steps g c = c.in-Some.ensures.first c.args.self.now.ahead c.self-1.given.0

pub returns-clause-goes : goal.returns-clause-goes
returns-clause-goes g c =
    let less = fewer _ c.args.self.now.ahead.0 c.self-1.given.0.0 (returns-clause-steps g c) in
    record { on = λ finite. (tt, finite, less); keeps = tt; rests = λ _. tt }

use Rattle.octseq_bgp.specs.Held.{held_is}
use Rattle.octseq_bgp.specs.Writing.{empty_update}
use Rattle.octseq_bgp.proofs.Updates.{empty_held}
use Rattle.octseq_bgp.proofs.message.update_builder.UpdateBuilder+B+Withdrawn.from_builder.Goals as goal

pub invariant_of-result : goal.invariant_of-result
invariant_of-result g c =
    let made = c.in-Ok.ensures in
    ((empty_update, ∣ empty_held c.args.session c.in-Ok.octets made.withdrawn made.attributes made.announced ∣₁), tt)

pub returns-in-Ok-clause-update : goal.returns-in-Ok-clause-update
returns-in-Ok-clause-update g c =
    let made = c.in-Ok.ensures in
    held_is c.result-1.given.0 (empty_held c.args.session c.in-Ok.octets made.withdrawn made.attributes made.announced)

use Rattle.octseq_dns_compress.proofs.Messages.{sound_cut, state_same, still_begun, still_held}
use Rattle.octseq_dns_compress.proofs.compose.Composer.rollback.Goals as goal

pub invariant_of-self-inside : goal.invariant_of-self-inside
invariant_of-self-inside g c =
    (sound_cut c.self.inside.sound c.truncate.ensures.content c.keep_before.ensures, tt)

pub returns-clause-state : goal.returns-clause-state
returns-clause-state g c =
    rw (← c.self.view_is)
    (state_same c.self.inside.sound.begun c.self-1.given.0.now c.truncate.ensures.content c.keep_before.ensures)

pub returns-clause-begun : goal.returns-clause-begun
returns-clause-begun g c =
    let was = c.self.inside.sound in
    let same = c.truncate.ensures.content in
    let alike = c.keep_before.ensures in
    rw (← c.self.view_is)
    (state_same was.begun c.self-1.given.0.begun (still_begun was same) (still_held was alike))

use Rattle.std.proofs.Common.{refl}
use Rattle.octseq_dns_compress.proofs.Messages.{all_begun, all_held, sound_begun, state_same}
use Rattle.octseq_dns_compress.proofs.compose.Composer.begin_entry.Goals as goal

pub invariant_of-self-inside : goal.invariant_of-self-inside
invariant_of-self-inside g c =
    (sound_begun c.self.inside.sound c.len-self-inside.result c.len-self-inside.ensures.content, tt)

pub returns-clause-state : goal.returns-clause-state
returns-clause-state g c =
    rw (← c.self.view_is) (state_same c.self.inside.sound.now c.self-1.given.0.now refl refl)

pub returns-clause-begun : goal.returns-clause-begun
returns-clause-begun g c =
    let was = c.self.inside.sound in
    let end = c.len-self-inside.ensures.content in
    rw (← c.self.view_is)
    (state_same was.now c.self-1.given.0.begun (all_begun was c.len-self-inside.result end)
    (all_held was c.len-self-inside.result end))

use Rattle.octseq_dns_compress.proofs.Composes.{composes_named, err_named, named_grows}
use Rattle.octseq_dns_compress.proofs.Messages.{sound_grown}
use Rattle.octseq_dns_compress.proofs.compose.Composer.append_name.Goals as goal

pub invariant_of-self-inside : goal.invariant_of-self-inside
invariant_of-self-inside g c =
    let was = c.self.inside.sound in
    let named = c.append_name.ensures.named was.now in
    (sound_grown was (named_grows was c.append_name.result named) named.held_before named.now, tt)

pub returns-clause-composed : goal.returns-clause-composed
returns-clause-composed g c =
    let was = c.self.inside.sound in
    rw (← c.self.view_is)
    (composes_named was c.append_name.result (c.append_name.ensures.named was.now) c.self-1.given.0
    c.append_name.ensures.memory)

pub returns-clause-err : goal.returns-clause-err
returns-clause-err g c =
    let was = c.self.inside.sound in
    rw (← c.self.view_is)
    (err_named was c.append_name.result (c.append_name.ensures.named was.now) c.self-1.given.0)

pub returns-clause-past : goal.returns-clause-past
returns-clause-past g c =
    rw (← c.self.view_is) (c.append_name.ensures.named c.self.inside.sound.now).short.1

pub returns-clause-least : goal.returns-clause-least
returns-clause-least g c = rw (← c.self.view_is) c.append_name.ensures.least

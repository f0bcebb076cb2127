use Rattle.octseq_dns_compress.proofs.Composes.{composes_appended, err_appended}
use Rattle.octseq_dns_compress.proofs.Messages.{sound_appended}
use Rattle.octseq_dns_compress.proofs.compose.Composer.append_slice.Goals as goal

pub invariant_of-self-inside : goal.invariant_of-self-inside
invariant_of-self-inside g c = (
  sound_appended c.self.inside.sound c.append.result c.append.ensures.appended c.append.ensures.most,
  tt,
)

pub returns-clause-composed : goal.returns-clause-composed
returns-clause-composed g c =
    rw (← c.self.view_is)
    (composes_appended c.self.inside.sound c.append.result c.append.ensures.appended c.self-1.given.0
    c.append.ensures.within)

pub returns-clause-err : goal.returns-clause-err
returns-clause-err g c =
    rw (← c.self.view_is)
    (err_appended c.self.inside.sound c.append.result c.append.ensures.appended c.self-1.given.0.now)

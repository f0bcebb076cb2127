use Rattle.std.proofs.Common.{◌∷◌, [], ap, ◌∙◌, length, length-append, arith}
use Rattle.octseq_dns_compress.proofs.Composes.{begun_appended, err_appended, ok_appended}
use Rattle.octseq_dns_compress.proofs.Messages.{data_apart, sound_appended, sound_from}
use Rattle.octseq_dns_compress.proofs.compose.Composer.begin_data.Goals as goal

pub invariant_of-self-inside : goal.invariant_of-self-inside
invariant_of-self-inside g c = (
  sound_appended c.self.inside.sound c.append.result c.append.ensures.appended c.append.ensures.most,
  tt,
)

pub returns-in-Err-clause-begun : goal.returns-in-Err-clause-begun
returns-in-Err-clause-begun g c =
    rw (← c.self.view_is)
    (begun_appended c.self.inside.sound c.append.result c.append.ensures.appended c.in-Err.self-1-own.given.0)

pub returns-in-Err-clause-err : goal.returns-in-Err-clause-err
returns-in-Err-clause-err g c =
    rw (← c.self.view_is)
    (err_appended c.self.inside.sound _ c.in-Err.ensures.appended c.in-Err.self-1-own.given.0.now)

pub invariant_of-self-inside-2 : goal.invariant_of-self-inside-2
invariant_of-self-inside-2 g c =
    let was = c.self.inside.sound in
    let octets = g.B.AsOctets.content c.self.inside.octets in
    let grown = c.in_default.ensures.appended.ok in
    let long = ap length grown ∙ length-append octets (0 ∷ 0 ∷ []) in
    let end = c.len-self-inside.ensures.content in (
      sound_from (sound_appended was c.append.result c.append.ensures.appended c.append.ensures.most)
          c.len-self-inside.result (omega (arith, end))
          (data_apart (0 ∷ 0 ∷ []) c.len-self-inside.result was.now.known grown (omega (arith, end, long))),
      tt,
    )

pub returns-clause-ok : goal.returns-clause-ok
returns-clause-ok g c =
    rw (← c.self.view_is)
    (ok_appended c.self.inside.sound _ c.in_default.ensures.appended c.self-2-1.given.0.now)

pub returns-clause-begun : goal.returns-clause-begun
returns-clause-begun g c =
    rw (← c.self.view_is)
    (begun_appended c.self.inside.sound c.append.result c.append.ensures.appended c.self-2-1.given.0)

use Rattle.std.proofs.Common.{◌≡◌, length, arith}
use Rattle.octseq_dns_compress.proofs.Over.{begun_headed, sound_headed, state_headed}
use Rattle.octseq_dns_compress.proofs.compose.Composer.put_header.Goals as goal

pub invariant_of-self-inside : goal.invariant_of-self-inside
invariant_of-self-inside g c =
    let put = c.args.header.now in
    let twelve : length put ≡ 12 = omega arith in
    (sound_headed c.self.inside.sound put twelve c.write_over.ensures.content, tt)

pub returns-clause-state : goal.returns-clause-state
returns-clause-state g c =
    let put = c.args.header.now in
    let twelve : length put ≡ 12 = omega arith in
    rw (← c.self.view_is)
    (state_headed c.self.inside.sound.now put twelve c.write_over.ensures.content c.self-1.given.0.now)

pub returns-clause-begun : goal.returns-clause-begun
returns-clause-begun g c =
    let was = c.self.inside.sound in
    let put = c.args.header.now in
    let twelve : length put ≡ 12 = omega arith in
    rw (← c.self.view_is)
    (state_headed was.begun put twelve (begun_headed was put twelve c.write_over.ensures.content)
    c.self-1.given.0.begun)

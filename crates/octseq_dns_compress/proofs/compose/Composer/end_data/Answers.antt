use Rattle.std.proofs.Common.{◌≡◌, ◌+◌, ◌-◌, ◌++◌, take, drop, ap, ◌∙◌, refl, length, arith}
use Rattle.octseq.specs.Integer.{octets_be}
use Rattle.octseq.proofs.Written.{made_be_2}
use Rattle.octseq_dns_compress.proofs.Messages.{state_same}
use Rattle.octseq_dns_compress.proofs.Over.{count_begun, count_late, count_names, sound_counted}
use Rattle.octseq_dns_compress.proofs.compose.Composer.end_data.Goals as goal

pub invariant_of-self-inside : goal.invariant_of-self-inside
invariant_of-self-inside g c = (
  sound_counted c.self.inside.sound c.to_be_bytes-count.result (ap length c.to_be_bytes-count.ensures)
      (count_late c.self.inside.sound c.self.view_is c.requires) c.write_over.ensures.content,
  tt,
)

pub returns-clause-octets : goal.returns-clause-octets
returns-clause-octets g c =
    let octets = g.B.AsOctets.content c.self.inside.octets in
    let from = c.self.inside.data_start in
    let put = c.to_be_bytes-count.result in
    let two : length put ≡ 2 = ap length c.to_be_bytes-count.ensures in
    let late = count_late c.self.inside.sound c.self.view_is c.requires in
    let end : from - 2 + length put ≡ from = omega (arith, late, two) in
    rw (← c.self.view_is)
    (c.write_over.ensures.content
    ∙ ap (λ n. take (from - 2) octets ++ (put ++ drop n octets)) end
    ∙ ap (λ p. take (from - 2) octets ++ (p ++ drop from octets))
    (c.to_be_bytes-count.ensures ∙ made_be_2 (c.len.result - from)
    ∙ ap (λ n. octets_be 2 (n - from)) c.len.ensures.content))

pub returns-clause-names : goal.returns-clause-names
returns-clause-names g c =
    rw (← c.self.view_is)
    (count_names c.self.inside.sound c.to_be_bytes-count.result (ap length c.to_be_bytes-count.ensures)
    (count_late c.self.inside.sound c.self.view_is c.requires) c.write_over.ensures.content c.self-1.given.0.now)

pub returns-clause-begun : goal.returns-clause-begun
returns-clause-begun g c =
    rw (← c.self.view_is)
    (state_same c.self.inside.sound.begun c.self-1.given.0.begun
    (count_begun c.self.inside.sound c.to_be_bytes-count.result (ap length c.to_be_bytes-count.ensures)
    (count_late c.self.inside.sound c.self.view_is c.requires) c.write_over.ensures.content) refl)

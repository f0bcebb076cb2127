use Rattle.std.proofs.Common.{◌≤◌, refl, sym, arith}
use Rattle.octseq.proofs.Written.{length_be}
use Rattle.octseq_bgp.specs.OriginType.{origin_number}
use Rattle.octseq_bgp.specs.declared.attribute.compose.number.OriginType.{OriginType}
use Rattle.octseq_bgp.specs.declared.attribute.compose.number.OriginType.TheVariants as origin
use Rattle.octseq_bgp.proofs.attribute.compose.number.OriginComposeAttribute.compose_len.Goals as goal

origin_few : (o : OriginType) → origin_number o ≤ 2
origin_few origin.Igp = omega arith
origin_few origin.Egp = omega arith
origin_few origin.Incomplete = omega arith

pub returns-clause-some : goal.returns-clause-some
returns-clause-some c = sym (length_be 1 (origin_number c.args.self.now.0))

pub returns-clause-fit : goal.returns-clause-fit
returns-clause-fit c =
    let one = length_be 1 (origin_number c.args.self.now.0) in
    (λ _. record { form = origin_few c.args.self.now.0; short = omega (arith, one) }, λ _. refl)

use Rattle.std.proofs.Common.{ℕ, sym, subst, arith}
use Rattle.std.specs.Prelude.{◌↔◌, IsSome}
use Rattle.octseq_bgp.specs.ItemOctets.{FitsTuple, are_tuple}
use Rattle.octseq_bgp.specs.NewCapability.{new_capability}
use Rattle.octseq_bgp.specs.WrittenCapability.{FitsCapability, WrittenCapability}
use Rattle.octseq_bgp.proofs.capability.compose.NewCapabilityComposeCapability.compose_len.Goals as goal

family_fits : (t : ℕ × (ℕ × ℕ)) → FitsTuple t → FitsCapability (WrittenCapability.multi_protocol t)
family_fits t fits = let four = are_tuple.many t fits in record { form = fits; short = omega (arith, four) }

pub returns-in-MultiProtocol-clause-fit : goal.returns-in-MultiProtocol-clause-fit
returns-in-MultiProtocol-clause-fit c =
    let same = c.multi_protocol.ensures in
    let fit = c.part_len.ensures.fit in
    subst (λ it. IsSome c.part_len.result ↔ FitsCapability (new_capability it)) (sym c.in-MultiProtocol.is) (
      (λ some. family_fits _ (subst FitsTuple same (fit.0 some))),
      (λ fits. fit.1 (subst FitsTuple (sym same) fits.form)),
    )

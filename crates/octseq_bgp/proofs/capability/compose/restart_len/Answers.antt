use Rattle.std.proofs.Common.{◌≡◌, ◌≤◌, true, false, length, length-append, map, refl, subst, arith}
use Rattle.std.specs.Prelude.{IsSome}
use Rattle.octseq.proofs.Written.{length_be}
use Rattle.octseq.specs.Integer.{octets_be}
use Rattle.octseq_format.specs.Row.{row_octets}
use Rattle.octseq_bgp.specs.ItemOctets.{tuple_octets}
use Rattle.octseq_bgp.specs.TupleOf.{tuple_of}
use Rattle.octseq_bgp.proofs.capability.compose.restart_len.Goals as goal

pub returns-in_err-len-clause-fit : goal.returns-in_err-len-clause-fit
returns-in_err-len-clause-fit c =
    let families = row_octets tuple_octets (map tuple_of c.args.families.now) in (
      λ some. let none : false ≡ true = subst IsSome c.from_residual.ensures some in absurd (cc),
      λ fits.
          let both = length-append (octets_be 2 c.args.bits) families in
          let two = length_be 2 c.args.bits in
          let short = fits.short in
          let few : length families ≤ 253 = omega (arith, both, two, short) in
          let none : false ≡ true = c.in_err-len.ensures.fit.1 (fits.form.1, few) in
          absurd (cc),
    )

pub returns-clause-some : goal.returns-clause-some
returns-clause-some c =
    let families = row_octets tuple_octets (map tuple_of c.args.families.now) in
    let both = length-append (octets_be 2 c.args.bits) families in
    let two = length_be 2 c.args.bits in
    let len = c.in_ok-len.ensures.some in
    omega (arith, both, two, len)

pub returns-clause-fit : goal.returns-clause-fit
returns-clause-fit c =
    let families = row_octets tuple_octets (map tuple_of c.args.families.now) in
    let both = length-append (octets_be 2 c.args.bits) families in
    let two = length_be 2 c.args.bits in
    let fit = c.in_ok-len.ensures.fit.0 refl in
    let few = fit.1 in
    (λ _. record { form = (omega arith, fit.0); short = omega (arith, both, two, few) }, λ _. refl)

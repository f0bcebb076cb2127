use Rattle.std.proofs.Common.{◌+◌, length, ap, ◌∙◌, arith}
use Rattle.octseq_bgp.proofs.Composing.{least_most}
use Rattle.octseq_bgp.proofs.UpdateParts.{arranged_long, arranges_as, puts_by, puts_within}
use Rattle.octseq_bgp.proofs.message.update_builder.octets.UpdateOctets.push.Goals as goal

pub overflow_add-withdrawn : goal.overflow_add-withdrawn
overflow_add-withdrawn g c =
    let puts = c.in-Ok.ensures.puts in
    let (w, a, n, is) = c.requires.arranges in
    omega (
      arith,
      (arranged_long _ _ _ w a n is).0,
      is.withdrawn_is,
      puts_within puts,
      ap length puts.withdrawn_is,
      least_most c.args.most g.B.AsOctets.limit,
    )

pub overflow_add-attributes : goal.overflow_add-attributes
overflow_add-attributes g c =
    let puts = c.in-Ok.ensures.puts in
    let (w, a, n, is) = c.requires.arranges in
    omega (
      arith,
      (arranged_long _ _ _ w a n is).0,
      is.attributes_is,
      puts_within puts,
      ap length puts.attributes_is,
      least_most c.args.most g.B.AsOctets.limit,
    )

pub arrange-requires : goal.arrange-requires
arrange-requires g c =
    let puts = c.in-Ok.ensures.puts in
    let (w, a, n, is) = c.requires.arranges in (
      w,
      a,
      n,
      arranges_as puts.withdrawn_is puts.attributes_is puts.announced_is
          (ap (λ k. k + c.args.withdrawn) (c.withdrawn_len.ensures ∙ ap length puts.withdrawn_is))
          (ap (λ k. k + c.args.attributes) (c.attributes_len.ensures ∙ ap length puts.attributes_is)) is,
    )

pub returns-in-Ok-clause-puts : goal.returns-in-Ok-clause-puts
returns-in-Ok-clause-puts g c w a n is =
    let puts = c.in-Ok.ensures.puts in
    let now = c.arrange.ensures.arranged w a n (arranges_as puts.withdrawn_is puts.attributes_is puts.announced_is
    (ap (λ k. k + c.args.withdrawn) (c.withdrawn_len.ensures ∙ ap length puts.withdrawn_is))
    (ap (λ k. k + c.args.attributes) (c.attributes_len.ensures ∙ ap length puts.attributes_is)) is) in
    puts_by (omega (arith, (arranged_long _ _ _ w a n is).0)) puts.fits puts.short puts.memory now.0 now.1 now.2 tt

pub returns-in-Err-clause-puts : goal.returns-in-Err-clause-puts
returns-in-Err-clause-puts g c w a n is =
    let puts = c.in-Err.ensures.puts in
    puts_by (omega (arith, (arranged_long _ _ _ w a n is).0)) puts.fits puts.short puts.memory tt tt tt puts.kept

use Rattle.std.proofs.Common.{◌∙◌, ◌++◌, ap}
use Rattle.octseq_bgp.proofs.Puts.{puts_after}
use Rattle.octseq_bgp.proofs.message.rewriting.attributes.put_reach.Goals as goal

pub returns-clause-puts : goal.returns-clause-puts
returns-clause-puts g c =
    let old = g.B.AsOctets.content c.args.builder.now in
    let front = c.in_ok-put_slice.ensures.puts.ok
    ∙ ap (λ o. old ++ o) (c.as_slice.ensures ∙ c.in-Some.ensures.octets) in
    puts_after c.put_prefixes.result _ _ old _ _ front c.put_prefixes.ensures.puts

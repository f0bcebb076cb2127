use Rattle.std.proofs.Common.{refl, ◌∙◌, arith}
use Rattle.octseq_bgp.specs.Written.{written_prefix, longest}
use Rattle.octseq_bgp.specs.declared.family.AfiSafiType.TheVariants as family
use Rattle.octseq_bgp.proofs.Composing.{least_most}
use Rattle.octseq_bgp.proofs.Prefixes.{withdrawn_wanted, written_fits}
use Rattle.octseq_bgp.proofs.Pushes.{push_held, pushes}
use Rattle.octseq_bgp.proofs.Updates.{held_long}
use Rattle.octseq_bgp.proofs.message.update_builder.prefixes.UpdateBuilder+B+Withdrawn.push_withdrawn.Goals as goal

pub append_withdrawn-requires-clause-now : goal.append_withdrawn-requires-clause-now
append_withdrawn-requires-clause-now g c =
    let long = held_long c.self.inside.held in
    omega (arith, long, c.longest-most.ensures.value)

pub invariant_of-self-inside : goal.invariant_of-self-inside
invariant_of-self-inside g c =
    let in' = c.self.inside in
    let p = c.args.prefix.now in
    let good = c.if-not-is_prefix_of.ensures.0 refl in
    let fits = written_fits in'.session family.Ipv4Unicast p c.args.path_id good c.new-octets.ensures.path_id in
    let octets = c.as_slice.ensures ∙ c.new-octets.ensures.octets in
    let puts = rw c.longest-most.ensures.value at c.append_withdrawn.ensures.puts in (
      push_held c.append_withdrawn.result puts (least_most (longest in'.session) g.B.AsOctets.limit)
          (withdrawn_wanted in'.held (written_prefix p c.args.path_id) c.as_slice.result.now fits octets) in'.held
          (λ o. o),
      tt,
    )

pub returns-clause-pushed : goal.returns-clause-pushed
returns-clause-pushed g c =
    let in' = c.self.inside in
    let p = c.args.prefix.now in
    let good = c.if-not-is_prefix_of.ensures.0 refl in
    let fits = written_fits in'.session family.Ipv4Unicast p c.args.path_id good c.new-octets.ensures.path_id in
    let octets = c.as_slice.ensures ∙ c.new-octets.ensures.octets in
    let puts = rw c.longest-most.ensures.value at c.append_withdrawn.ensures.puts in
    rw (← c.self.view_is)
    (pushes c.append_withdrawn.result puts
    (withdrawn_wanted in'.held (written_prefix p c.args.path_id) c.as_slice.result.now fits octets) good refl refl
    in'.held refl c.self-1.given.0 refl refl)

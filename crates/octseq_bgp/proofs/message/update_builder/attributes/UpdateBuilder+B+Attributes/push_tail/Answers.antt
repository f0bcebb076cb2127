use Rattle.std.proofs.Common.{refl, ◌∙◌, arith}
use Rattle.octseq_bgp.specs.Written.{WrittenAttribute, longest}
use Rattle.octseq_bgp.specs.Writing.{more_attributes}
use Rattle.octseq_bgp.proofs.Attributes.{attribute_after, none_announced}
use Rattle.octseq_bgp.proofs.Composing.{least_most}
use Rattle.octseq_bgp.proofs.Pushes.{none_held, pushes_err, pushes_ok, put_held}
use Rattle.octseq_bgp.proofs.Updates.{held_long}
use Rattle.octseq_bgp.proofs.message.update_builder.attributes.UpdateBuilder+B+Attributes.push_tail.Goals as goal

pub append_attribute-requires-clause-announced : goal.append_attribute-requires-clause-announced
append_attribute-requires-clause-announced g c = none_announced c.self.inside.held

pub append_attribute-requires-clause-now : goal.append_attribute-requires-clause-now
append_attribute-requires-clause-now g c =
    let long = held_long c.self.inside.held in
    omega (arith, long, c.longest-most.ensures.value)

pub invariant_of-self-inside : goal.invariant_of-self-inside
invariant_of-self-inside g c =
    let in' = c.self.inside in
    let made = rw c.len.ensures at c.in-Some.ensures in
    let octets = g.T.Tail.octets c.args.tail.now in
    let a : WrittenAttribute = record { flags = c.args.flags; kind = c.args.type_code; octets = octets } in
    let wanted = attribute_after in'.held a (c.as_slice.ensures ∙ made.octets) made.flags made.type_code
    (made.some refl) in
    let puts = rw c.longest-most.ensures.value at c.in-Ok.ensures.puts in (
      (
        more_attributes in'.held.0 a,
        ∣ put_held puts (least_most (longest in'.session) g.B.AsOctets.limit) wanted tt ∣₁,
      ),
      tt,
    )

pub invariant_of-self-inside-in-Err-1 : goal.invariant_of-self-inside-in-Err-1
invariant_of-self-inside-in-Err-1 g c = (none_held c.in-Err.ensures.puts c.self.inside.held, tt)

pub returns-in-Ok-clause-pushed : goal.returns-in-Ok-clause-pushed
returns-in-Ok-clause-pushed g c =
    let in' = c.self.inside in
    let made = rw c.len.ensures at c.in-Some.ensures in
    let octets = g.T.Tail.octets c.args.tail.now in
    let a : WrittenAttribute = record { flags = c.args.flags; kind = c.args.type_code; octets = octets } in
    let wanted = attribute_after in'.held a (c.as_slice.ensures ∙ made.octets) made.flags made.type_code
    (made.some refl) in
    let puts = rw c.longest-most.ensures.value at c.in-Ok.ensures.puts in
    rw (← c.self.view_is) (pushes_ok puts wanted (made.some refl) refl refl c.self-1.given.0 refl refl)

pub returns-in-Err-clause-pushed : goal.returns-in-Err-clause-pushed
returns-in-Err-clause-pushed g c =
    let in' = c.self.inside in
    let made = rw c.len.ensures at c.in-Some.ensures in
    let octets = g.T.Tail.octets c.args.tail.now in
    let a : WrittenAttribute = record { flags = c.args.flags; kind = c.args.type_code; octets = octets } in
    let wanted = attribute_after in'.held a (c.as_slice.ensures ∙ made.octets) made.flags made.type_code
    (made.some refl) in
    let puts = rw c.longest-most.ensures.value at c.in-Err.ensures.puts in
    rw (← c.self.view_is)
    (pushes_err puts wanted (made.some refl) refl refl in'.held refl c.in-Err.self-in-Err-1-own.given.0 refl refl)

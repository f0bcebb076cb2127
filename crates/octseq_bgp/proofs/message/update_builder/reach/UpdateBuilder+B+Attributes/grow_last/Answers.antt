use Rattle.std.proofs.Common.{◌≡◌, ◌<◌, ◌≤◌, ◌+◌, ◌-◌, ◌^◌, length, refl, ap, ◌∙◌, arith, subst}
use Rattle.octseq_bgp.specs.AttributeType.{type_number}
use Rattle.octseq_bgp.specs.Written.{flags_for, head_octets, length_width, longest}
use Rattle.octseq_bgp.specs.Writing.{list_type}
use Rattle.octseq_bgp.proofs.Attributes.{none_announced, typed_many}
use Rattle.octseq_bgp.proofs.Composing.{least_most}
use Rattle.octseq_bgp.proofs.Lasts.{grown_open, grown_past, grown_wanted, head_fits, head_grows, offset_fits}
use Rattle.octseq_bgp.proofs.Pushes.{push_held, pushes, too_long}
use Rattle.octseq_bgp.proofs.Updates.{held_long, longest_most}
use Rattle.octseq_bgp.proofs.message.update_builder.reach.UpdateBuilder+B+Attributes.grow_last.Goals as goal

pub overflow_sub-len : goal.overflow_sub-len
overflow_sub-len g c =
    let opened = rw (← c.self.view_is) at c.requires.list in
    let fits = offset_fits c.self.inside.held c.args.list opened in
    omega (arith, fits, c.attributes_len.ensures)

pub overflow_sub-len-2 : goal.overflow_sub-len-2
overflow_sub-len-2 g c =
    let opened = rw (← c.self.view_is) at c.requires.list in
    let heads = rw c.attributes_len.ensures at c.head_len-old.ensures in
    let fits = head_fits c.self.inside.held c.args.list opened c.head_len-old.result
    (record { short = heads.short; long = heads.long }) in
    omega (arith, fits, c.attributes_len.ensures)

pub overflow_add-len : goal.overflow_add-len
overflow_add-len g c =
    let long = held_long c.self.inside.held in
    let most = longest_most c.self.inside.session in
    omega (arith, long, most, c.attributes_len.ensures, c.requires.few)

pub returns-in_default-clause-pushed : goal.returns-in_default-clause-pushed
returns-in_default-clause-pushed g c =
    let in' = c.self.inside in
    let opened = rw (← c.self.view_is) at c.requires.list in
    let old = c.head_len-old.result in
    let heads = rw c.attributes_len.ensures at c.head_len-old.ensures in
    let n = c.attributes_len.result - in'.open_at - old + length c.args.more.now in
    let count : n ≡ length in'.octets.attributes - in'.open_at - old + length c.args.more.now =
    ap (λ k. k - in'.open_at - old + length c.args.more.now) c.attributes_len.ensures in
    let flags = c.flags_for.ensures ∙ ap (λ t. flags_for t n) c.kind-kind.ensures in
    let many = typed_many (list_type c.args.list) n
    (subst (λ f. 256 ^ length_width f ≤ n) flags (c.in_default.ensures.none refl)) in
    let past = grown_past in'.held c.args.list opened old (record { short = heads.short; long = heads.long })
    c.args.more.now n count many in
    let most = longest_most in'.session in
    let less = least_most (longest in'.session) g.B.AsOctets.limit in
    rw (← c.self.view_is) (too_long tt (omega (arith, past, most, less)) refl refl refl)

pub grow_attribute-requires-clause-announced : goal.grow_attribute-requires-clause-announced
grow_attribute-requires-clause-announced g c = none_announced c.self.inside.held

pub grow_attribute-requires-clause-head : goal.grow_attribute-requires-clause-head
grow_attribute-requires-clause-head g c =
    let in' = c.self.inside in
    let opened = rw (← c.self.view_is) at c.requires.list in
    let old = c.head_len-old.result in
    let heads = rw c.attributes_len.ensures at c.head_len-old.ensures in
    let n = c.attributes_len.result - in'.open_at - old + length c.args.more.now in
    let t = list_type c.args.list in
    let head = c.as_slice.ensures ∙ c.in-Some.ensures.octets
    ∙ ap (λ f. head_octets f c.number.result n) (c.flags_for.ensures ∙ ap (λ t. flags_for t n) c.kind-kind.ensures)
    ∙ ap (λ k. head_octets (flags_for t n) k n) (c.number.ensures ∙ ap type_number c.kind-kind.ensures) in
    let grows = head_grows in'.held c.args.list opened old (record { short = heads.short; long = heads.long }) n
    (omega (arith, c.attributes_len.ensures)) in
    omega (arith, grows, ap length head)

pub grow_attribute-requires-clause-inside : goal.grow_attribute-requires-clause-inside
grow_attribute-requires-clause-inside g c =
    let opened = rw (← c.self.view_is) at c.requires.list in
    let heads = rw c.attributes_len.ensures at c.head_len-old.ensures in
    head_fits c.self.inside.held c.args.list opened c.head_len-old.result
    (record { short = heads.short; long = heads.long })

pub grow_attribute-requires-clause-now : goal.grow_attribute-requires-clause-now
grow_attribute-requires-clause-now g c =
    let long = held_long c.self.inside.held in
    omega (arith, long, c.longest-most.ensures.value)

pub invariant_of-self-inside : goal.invariant_of-self-inside
invariant_of-self-inside g c =
    let in' = c.self.inside in
    let opened = rw (← c.self.view_is) at c.requires.list in
    let old = c.head_len-old.result in
    let heads = rw c.attributes_len.ensures at c.head_len-old.ensures in
    let n = c.attributes_len.result - in'.open_at - old + length c.args.more.now in
    let count : n ≡ length in'.octets.attributes - in'.open_at - old + length c.args.more.now =
    ap (λ k. k - in'.open_at - old + length c.args.more.now) c.attributes_len.ensures in
    let t = list_type c.args.list in
    let flags = c.flags_for.ensures ∙ ap (λ t. flags_for t n) c.kind-kind.ensures in
    let number = c.number.ensures ∙ ap type_number c.kind-kind.ensures in
    let made = c.in-Some.ensures in
    let head = c.as_slice.ensures ∙ made.octets ∙ ap (λ f. head_octets f c.number.result n) flags
    ∙ ap (λ k. head_octets (flags_for t n) k n) number in
    let wanted = grown_wanted in'.held c.args.list opened old (record { short = heads.short; long = heads.long })
    c.args.more.now n c.as_slice.result.now count (subst (λ f. f < 256) flags made.flags)
    (subst (λ k. k < 256) number made.type_code)
    (subst (λ f. n < 256 ^ length_width f) flags (made.some refl)) head in
    let puts = rw c.longest-most.ensures.value at c.grow_attribute.ensures.puts in (
      push_held c.grow_attribute.result puts (least_most (longest in'.session) g.B.AsOctets.limit) wanted in'.held
          (grown_open in'.held c.args.list opened c.args.more.now),
      tt,
    )

pub returns-clause-pushed : goal.returns-clause-pushed
returns-clause-pushed g c =
    let in' = c.self.inside in
    let opened = rw (← c.self.view_is) at c.requires.list in
    let old = c.head_len-old.result in
    let heads = rw c.attributes_len.ensures at c.head_len-old.ensures in
    let n = c.attributes_len.result - in'.open_at - old + length c.args.more.now in
    let count : n ≡ length in'.octets.attributes - in'.open_at - old + length c.args.more.now =
    ap (λ k. k - in'.open_at - old + length c.args.more.now) c.attributes_len.ensures in
    let t = list_type c.args.list in
    let flags = c.flags_for.ensures ∙ ap (λ t. flags_for t n) c.kind-kind.ensures in
    let number = c.number.ensures ∙ ap type_number c.kind-kind.ensures in
    let made = c.in-Some.ensures in
    let head = c.as_slice.ensures ∙ made.octets ∙ ap (λ f. head_octets f c.number.result n) flags
    ∙ ap (λ k. head_octets (flags_for t n) k n) number in
    let wanted = grown_wanted in'.held c.args.list opened old (record { short = heads.short; long = heads.long })
    c.args.more.now n c.as_slice.result.now count (subst (λ f. f < 256) flags made.flags)
    (subst (λ k. k < 256) number made.type_code)
    (subst (λ f. n < 256 ^ length_width f) flags (made.some refl)) head in
    let puts = rw c.longest-most.ensures.value at c.grow_attribute.ensures.puts in
    rw (← c.requires.list, ← c.self.view_is)
    (pushes c.grow_attribute.result puts wanted tt refl refl in'.held refl c.self-1.given.0 refl refl)

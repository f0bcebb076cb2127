use Rattle.std.proofs.Common.{◌≡◌, ap, ◌∙◌, length, refl}
use Rattle.octseq_bgp.specs.Written.{WrittenUpdate, typed_attribute}
use Rattle.octseq_bgp.specs.Writing.{IsLast, Writing, list_type, more_attributes}
use Rattle.octseq_bgp.proofs.Pushes.{pushes_opened}
use Rattle.octseq_bgp.proofs.Updates.{held_as, held_attributes, held_same}
use Rattle.octseq_bgp.proofs.message.update_builder.reach.UpdateBuilder+B+Attributes.push_list.Goals as goal

pub invariant_of-self-inside : goal.invariant_of-self-inside
invariant_of-self-inside g c =
    let in' = c.self.inside in
    let after = c.self-2.inside in
    let pushed = rw (← c.self.view_is) at c.in-Ok.ensures.pushed.ok in
    let update : after.held.0
    ≡ more_attributes in'.held.0 (typed_attribute (list_type c.args.list) c.args.octets.now) =
    ap (λ (v : Writing g.row.B.Denot). v.update) c.self-2.view_is ∙ pushed
    ∙ ap (λ t. more_attributes in'.held.0 (typed_attribute t c.args.octets.now)) c.kind.ensures in
    let last : IsLast (list_type c.args.list) c.attributes_len-at.result after.held.0.attributes = record {
      front = in'.held.0.attributes;
      octets = c.args.octets.now;
      is = ap (λ (u : WrittenUpdate). u.attributes) update;
      offset = c.attributes_len-at.ensures ∙ ap length (held_attributes in'.held);
    } in
    (held_as after.held (λ up. up) (λ opened. last), tt)

pub returns-in-Ok-clause-pushed : goal.returns-in-Ok-clause-pushed
returns-in-Ok-clause-pushed g c =
    let pushed = rw c.kind.ensures at c.in-Ok.ensures.pushed in
    pushes_opened pushed tt
    (held_same c.self-1.given.0 c.self-2.inside.held
    ∙ ap (λ (v : Writing g.row.B.Denot). v.update) c.self-2.view_is) refl
    (ap (λ (v : Writing g.row.B.Denot). v.session) c.self-2.view_is)

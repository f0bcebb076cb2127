use Rattle.std.proofs.Common.{[], ◌++◌, refl, ap, subst, ◌∙◌, arith, length-append}
use Rattle.octseq.specs.Parser.{window}
use Rattle.octseq_bgp.specs.Lists.{attribute_of, attributes_left, attributes_session}
use Rattle.octseq_bgp.specs.Value.{IsValue}
use Rattle.octseq_c.specs.BgpRoom.{attributes_room}
use Rattle.octseq_c.specs.BgpRows.{rows_of_attribute}
use Rattle.octseq_c.proofs.BgpRoom.{room_cons}
use Rattle.octseq_c.proofs.BgpRows.{more_rows, last_rows}
use Rattle.octseq_c.proofs.bgp.rows.attributes_count.Goals as goal

pub attributes-init : goal.attributes-init
attributes-init g c = record { done = []; session = refl; whole = λ more are. are; count = refl; room = omega arith }

pub attributes-preserved : goal.attributes-preserved
attributes-preserved g c =
    let so_far = c.attributes.invariant in
    let attribute = c.in-Some.attribute in
    let e = attribute_of attribute in
    let steps = c.in-Some.ensures.steps in
    let (v, is, n) = c.value_count.ensures.rows in
    let most = c.value_count.ensures.most in
    let here = ap attributes_room steps.0 in
    let parts = room_cons e (attributes_left c.next.new.self) in
    let said = subst (λ session. IsValue session attribute.type_code (window attribute.value) v)
    (steps.2 ∙ so_far.session) is in
    record {
      done = so_far.done ++ rows_of_attribute e v;
      session = steps.1 ∙ so_far.session;
      whole = more_rows (attributes_session c.args.attributes) e v steps.0 said (attributes_left c.args.attributes)
          so_far.done so_far.whole;
      count = let before = so_far.count in omega (arith, before, n, length-append so_far.done (rows_of_attribute e v));
      room = let before = so_far.room in omega (arith, before, here, parts, most);
    }

pub returns-clause-rows : goal.returns-clause-rows
returns-clause-rows g c =
    let so_far = c.attributes.invariant in (
      so_far.done,
      last_rows (attributes_session c.args.attributes) (attributes_left c.args.attributes) so_far.done
          c.in_default.ensures.steps.0.0 so_far.whole,
      so_far.count,
    )

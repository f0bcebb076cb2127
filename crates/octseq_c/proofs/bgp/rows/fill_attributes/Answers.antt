use Rattle.std.proofs.Common.{[], ◌++◌, length, take, drop, refl, ap, sym, subst, ◌∙◌, arith, append_assoc, append-nil}
use Rattle.std.proofs.Common.{length-append}
use Rattle.std.proofs.lemmas.List.{take-append-drop}
use Rattle.octseq.specs.Parser.{window}
use Rattle.octseq_bgp.specs.Lists.{attribute_of, attributes_left, attributes_session}
use Rattle.octseq_bgp.specs.Value.{IsValue}
use Rattle.octseq_bgp.specs.ValueOf.{value_of}
use Rattle.octseq_c.specs.BgpRows.{rows_of_attribute}
use Rattle.octseq_c.proofs.BgpFilled.{more_placed, placed_long}
use Rattle.octseq_c.proofs.BgpRows.{first_rows, more_rows, last_rows}
use Rattle.octseq_c.proofs.bgp.rows.fill_attributes.Goals as goal

pub attributes-init : goal.attributes-init
attributes-init g c =
    let out = c.args.out.now in
    record {
      done = [];
      more = c.requires.0;
      session = refl;
      ahead = c.requires.1;
      room = c.requires.2;
      whole = λ more are. are;
      offset = omega arith;
      written = sym (ap (λ x. x ++ drop c.args.from out) (append-nil (take c.args.from out))
          ∙ take-append-drop c.args.from out);
    }

pub fill_attribute-at-requires : goal.fill_attribute-at-requires
fill_attribute-at-requires g c =
    let so_far = c.attributes.invariant in
    let attribute = c.in-Some.attribute in
    let e = attribute_of attribute in
    let v = value_of c.value-value.result in
    let rows = rows_of_attribute e v in
    let s = attributes_session c.args.attributes in
    let steps = c.in-Some.ensures.steps in
    let said = subst (λ session. IsValue session attribute.type_code (window attribute.value) v)
    (steps.2 ∙ so_far.session) c.value-value.ensures in
    let (rest, are, more) = first_rows s e v steps.0 said so_far.more so_far.ahead in
    let many = ap length more in
    let both = length-append rows rest in
    let room = so_far.room in
    let offset = so_far.offset in
    let long = placed_long c.args.out.now c.attributes.out so_far.done c.args.from c.attributes.at
    (omega (arith, room, offset)) offset (omega (arith, room)) so_far.written in
    omega (arith, room, many, both, long)

pub attributes-preserved : goal.attributes-preserved
attributes-preserved g c =
    let so_far = c.attributes.invariant in
    let attribute = c.in-Some.attribute in
    let e = attribute_of attribute in
    let v = value_of c.value-value.result in
    let rows = rows_of_attribute e v in
    let s = attributes_session c.args.attributes in
    let steps = c.in-Some.ensures.steps in
    let said = subst (λ session. IsValue session attribute.type_code (window attribute.value) v)
    (steps.2 ∙ so_far.session) c.value-value.ensures in
    let (rest, are, more) = first_rows s e v steps.0 said so_far.more so_far.ahead in
    let many = ap length more in
    let both = length-append rows rest in
    let end = c.fill_attribute-at.ensures.end in
    let room = so_far.room in
    let offset = so_far.offset in
    record {
      done = so_far.done ++ rows;
      more = rest;
      session = steps.1 ∙ so_far.session;
      ahead = are;
      room = omega (arith, room, end, many, both);
      whole = more_rows s e v steps.0 said (attributes_left c.args.attributes) so_far.done so_far.whole;
      offset = omega (arith, offset, end, length-append so_far.done rows);
      written = more_placed c.args.out.now _ _ so_far.done rows c.args.from _ _ (omega (arith, room, offset)) offset end
          so_far.written c.fill_attribute-at.ensures.out;
    }

pub returns : goal.returns
returns g c =
    let so_far = c.attributes.invariant in (
      so_far.done,
      last_rows (attributes_session c.args.attributes) (attributes_left c.args.attributes) so_far.done
          c.in_default.ensures.steps.0.0 so_far.whole,
      so_far.offset,
      so_far.written ∙ append_assoc (take c.args.from c.args.out.now) so_far.done (drop _ c.args.out.now),
    )

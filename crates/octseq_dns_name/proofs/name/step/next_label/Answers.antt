use Rattle.std.proofs.Common.{◌≡◌, ◌∙◌, sym, ap, subst, arith}
use Rattle.octseq.specs.Parser.{window}
use Rattle.octseq.specs.Window.{at, rest}
use Rattle.octseq_dns_name.specs.Name.{HasLabels}
use Rattle.octseq_dns_name.specs.NextLabel.{NextLabel}
use Rattle.octseq_dns_name.specs.OneName.{at_root, at_label, at_pointer}
use Rattle.octseq_dns_name.proofs.Known.{ok_where_known}
use Rattle.octseq_dns_name.proofs.name.step.next_label.Goals as goal

pub infallible-requires : goal.infallible-requires
infallible-requires g c =
    ok_where_known c.next_step.result c.args.start.now (window c.args.parser.now) c.pointers.start
    (window c.pointers.parser) c.requires.known (λ labels pointers end has_labels.
    let here = c.pointers.invariant.has_labels labels pointers end has_labels in (labels, here.0, here.1, here.2))
    c.next_step.ensures.malformed

pub returns-in-Label-clause-some : goal.returns-in-Label-clause-some
returns-in-Label-clause-some g c = λ labels pointers end has_labels.
    let has = rw c.in-Label.is at (rw c.infallible.ensures at c.next_step.ensures.step) in
    let here = c.pointers.invariant.has_labels labels pointers end has_labels in
    let v = window c.next_step.new.parser in
    let on = at_label c.pointers.start (window c.pointers.parser) v here.1
    (rest (window c.in-Label.label)) labels here.0 has here.2 in
    (on.0, here.0, here.1, on.1, on.2)

pub returns-in-Label-clause-place : goal.returns-in-Label-clause-place
returns-in-Label-clause-place g c =
    let has = rw c.in-Label.is at (rw c.infallible.ensures at c.next_step.ensures.step) in
    let at = rw c.in-Label.is at (rw c.infallible.ensures at c.next_step.ensures.place) in
    c.pointers.invariant.place _ _ _ (NextLabel.here has at)

pub pointers-preserved : goal.pointers-preserved
pointers-preserved g c =
    let has = rw c.in-Pointer.is at (rw c.infallible.ensures at c.next_step.ensures.step) in
    let w = window c.pointers.parser in
    let to = c.in-Pointer.to in
    let given = rw c.infallible-in-Pointer.ensures at c.seek.ensures.ok in
    let moved : window c.seek.new.self ≡ at to w = given ∙ ap (at to) has.after in
    record {
      has_labels = λ labels pointers end has_labels.
          let here = c.pointers.invariant.has_labels labels pointers end has_labels in
          let on = at_pointer c.pointers.start w (window c.next_step.new.parser) here.1 to labels here.0 has here.2 in
          (on.0, on.1, subst (λ v. HasLabels to v labels on.0 on.1) (sym moved) on.4);
      place = λ place on began next. c.pointers.invariant.place place on began
          (NextLabel.pointed has (subst (λ v. NextLabel to v place began on) moved next));
      ordered = let place = ap (λ w. w.position) moved in omega (arith, place);
    }

pub returns-in-Root-clause-none : goal.returns-in-Root-clause-none
returns-in-Root-clause-none g c = λ _ labels pointers end has_labels.
    let has = rw c.in-Root.is at (rw c.infallible.ensures at c.next_step.ensures.step) in
    let here = c.pointers.invariant.has_labels labels pointers end has_labels in
    (at_root c.pointers.start (window c.pointers.parser)
    (window c.next_step.new.parser) here.1 labels here.0 has here.2).0

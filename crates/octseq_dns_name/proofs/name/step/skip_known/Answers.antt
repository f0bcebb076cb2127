use Rattle.octseq.specs.Parser.{window}
use Rattle.octseq.specs.Window.{rest}
use Rattle.std.proofs.Common.{◌∙◌}
use Rattle.octseq_dns_name.specs.OneName.{at_label}
use Rattle.octseq_dns_name.proofs.Known.{ahead_of, ok_where_known}
use Rattle.octseq_dns_name.proofs.name.step.skip_known.Goals as goal

pub infallible-requires : goal.infallible-requires
infallible-requires g c =
    let w = window c.args.parser.now in
    let start = c.pos-start.result in
    ok_where_known c.next_step.result start w start (window c.labels.parser)
    (ahead_of w start c.pos-start.ensures.position c.requires) (λ labels pointers end has_labels.
    let here = c.labels.invariant.has_labels labels pointers end has_labels in (here.0, pointers, end, here.1))
    c.next_step.ensures.malformed

pub labels-preserved : goal.labels-preserved
labels-preserved g c =
    let has = rw c.in-Label.is at (rw c.infallible.ensures at c.next_step.ensures.step) in
    record {
      has_labels = λ labels pointers end has_labels.
          let here = c.labels.invariant.has_labels labels pointers end has_labels in
          let on = at_label c.pos-start.result (window c.labels.parser) (window c.next_step.new.parser) end
          (rest (window c.in-Label.field-0)) here.0 pointers has here.1 in
          (on.0, on.2);
      same = c.next_step.ensures.same ∙ c.labels.invariant.same;
    }

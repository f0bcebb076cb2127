use Rattle.std.proofs.Common.{[], ◌∷◌, ◌++◌, length, refl, ap, sym, ◌∙◌, append_assoc, arith}
use Rattle.std.specs.Ordering.{ordering_then}
use Rattle.octseq_dns_name.specs.Order.{label_cmp}
use Rattle.octseq_dns_name.specs.Read.{labels_left, label_octets}
use Rattle.octseq_dns_name.proofs.Comparisons.{name_cmp_last}
use Rattle.octseq_dns_name.proofs.name.compare.labels_cmp.Goals as goal

pub loop-label-init : goal.loop-label-init
loop-label-init g c =
    let given = ap labels_left c.into_iter-label-iterator.ensures.into_iter_gives in
    record {
      done = [];
      others_done = [];
      labels_are = sym given;
      others_are = refl;
      as_many = ap length given ∙ c.requires;
      found = refl;
    }

pub loop-label-preserved : goal.loop-label-preserved
loop-label-preserved g c =
    let so_far = c.loop-label.invariant in
    let label = label_octets c.in-Some.label in
    let other = label_octets c.in-Some-next.other in
    record {
      done = so_far.done ++ label ∷ [];
      others_done = so_far.others_done ++ other ∷ [];
      labels_are = so_far.labels_are ∙ ap (λ labels. so_far.done ++ labels) c.in-Some.ensures.steps.0
          ∙ sym (append_assoc so_far.done (label ∷ []) (labels_left c.next.new.self));
      others_are = so_far.others_are ∙ ap (λ labels. so_far.others_done ++ labels) c.in-Some-next.ensures.steps.0
          ∙ sym (append_assoc so_far.others_done (other ∷ []) (labels_left c.next-in-loop-label.new.self));
      as_many = let a = ap length c.in-Some.ensures.steps.0 in let b = ap length c.in-Some-next.ensures.steps.0 in
          let same = so_far.as_many in omega (arith, a, b, same);
      found = c.then-found.ensures ∙ ap (λ o. ordering_then o c.loop-label.found) c.label_cmp.ensures
          ∙ ap (ordering_then (label_cmp label other)) so_far.found
          ∙ sym (name_cmp_last so_far.done so_far.others_done label other);
    }

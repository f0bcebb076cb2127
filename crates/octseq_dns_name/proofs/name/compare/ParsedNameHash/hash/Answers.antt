use Rattle.std.proofs.Common.{[], ◌∷◌, ◌++◌, flat_map, ap, sym, ◌∙◌, append_assoc}
use Rattle.std.proofs.lemmas.List.{flat_map_more}
use Rattle.std.specs.Hash as fed
use Rattle.octseq_dns_name.specs.Order.{label_writes}
use Rattle.octseq_dns_name.specs.Read.{labels_left, label_octets}
use Rattle.octseq_dns_name.proofs.name.compare.ParsedNameHash.hash.Goals as goal

pub loop-label-preserved : goal.loop-label-preserved
loop-label-preserved g c =
    let so_far = c.loop-label.invariant in
    let label = label_octets c.in-Some.label in
    let write = g.H.Hasher.write in
    record {
      done = so_far.done ++ label ∷ [];
      labels_are = so_far.labels_are ∙ ap (λ labels. so_far.done ++ labels) c.in-Some.ensures.steps.0
          ∙ sym (append_assoc so_far.done (label ∷ []) (labels_left c.next.new.self));
      written = fed.fed_along write c.args.state.now c.hash.new.state (flat_map_more label_writes [] so_far.done label)
          (fed.fed_then write c.args.state.now c.loop-label.state c.hash.new.state (flat_map label_writes so_far.done)
          (label_writes label) so_far.written c.hash.ensures);
    }

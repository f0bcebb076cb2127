use Rattle.std.proofs.Common.{◌≡◌, ◌+◌, ◌≤◌, [], ◌∷◌, ◌++◌, length, sym, ap, ◌∙◌, subst, append_assoc, arith}
use Rattle.std.proofs.lemmas.List.{length-append}
use Rattle.octseq.specs.Limit.{ExceedsLimit}
use Rattle.octseq_dns_name.specs.Name.{wire_length}
use Rattle.octseq_dns_name.specs.Read.{labels_left, label_octets}
use Rattle.octseq_dns_name.proofs.Names.{wire_some}
use Rattle.octseq_dns_name.proofs.Wires.{room_ahead, appended_more, one_more}
use Rattle.octseq_dns_name.proofs.name.wire.append_labels.Goals as goal

pub append-requires : goal.append-requires
append-requires g c =
    let so_far = c.loop-label.invariant in
    let content = g.B.AsOctets.content in
    let ahead = labels_left c.loop-label.label-iterator in
    room_ahead g.B.AsOctets.limit (content c.loop-label.octets) (content c.args.octets.now)
    (labels_left c.args.labels) so_far.done ahead 1 so_far.appended so_far.labels_are (wire_some ahead) c.requires

pub append-requires-in-loop-label : goal.append-requires-in-loop-label
append-requires-in-loop-label g c =
    let so_far = c.loop-label.invariant in
    let content = g.B.AsOctets.content in
    let limit = g.B.AsOctets.limit in
    let ahead = labels_left c.loop-label.label-iterator in
    let slice = c.as_slice-slice.result.now in
    let label = label_octets c.in-Some.label in
    let made = ap length c.in_ok-append.ensures.ok in
    let is = ap length c.as_slice-slice.ensures.octets in
    let steps = ap wire_length c.in-Some.ensures.steps.0 in
    let fits : 1 + length slice ≤ wire_length ahead = omega (arith, is, steps) in
    let size : length (content c.loop-label.octets) + (1 + length slice) ≡ length
    (content c.append.new.octets) + length slice =
    let one = length-append (content c.loop-label.octets) (length slice ∷ []) in omega (arith, made, one) in
    subst (λ n. ¬ ExceedsLimit limit n) size
    (room_ahead limit (content c.loop-label.octets) (content c.args.octets.now)
    (labels_left c.args.labels) so_far.done ahead
    (1 + length slice) so_far.appended so_far.labels_are fits c.requires)

pub loop-label-preserved : goal.loop-label-preserved
loop-label-preserved g c =
    let so_far = c.loop-label.invariant in
    let content = g.B.AsOctets.content in
    let label = label_octets c.in-Some.label in
    let same = c.as_slice-slice.ensures.octets in
    record {
      done = so_far.done ++ label ∷ [];
      labels_are = so_far.labels_are ∙ ap (λ labels. so_far.done ++ labels) c.in-Some.ensures.steps.0
          ∙ sym (append_assoc so_far.done (label ∷ []) (labels_left c.next.new.self));
      each = one_more so_far.done label so_far.each (subst (λ l. 1 ≤ length l) same c.as_slice-slice.ensures.some)
          (subst (λ l. length l ≤ 63) same c.as_slice-slice.ensures.most);
      appended = appended_more (content c.args.octets.now) (content c.loop-label.octets) (content c.append.new.octets)
          (content c.append-in-loop-label.new.octets) so_far.done label so_far.appended
          (c.in_ok-append.ensures.ok ∙ ap (λ l. content c.loop-label.octets ++ length l ∷ []) same)
          (c.in_ok-append-2.ensures.ok ∙ ap (λ l. content c.append.new.octets ++ l) same);
    }

pub append-requires-2 : goal.append-requires-2
append-requires-2 g c =
    let so_far = c.loop-label.invariant in
    let content = g.B.AsOctets.content in
    let ahead = labels_left c.loop-label.label-iterator in
    room_ahead g.B.AsOctets.limit (content c.loop-label.octets) (content c.args.octets.now)
    (labels_left c.args.labels) so_far.done ahead 1 so_far.appended so_far.labels_are (wire_some ahead) c.requires

use Rattle.std.proofs.Common.{◌≡◌, ◌<◌, ◌-◌, ◌++◌, ap, ◌∙◌, sym, subst, length, take, arith, length-set}
use Rattle.octseq_dns_name.specs.Name.{wire_length}
use Rattle.octseq_dns_name.specs.NextLabel.{ahead_of}
use Rattle.octseq_dns_name.specs.Read.{label_place, labels_left, labels_of, place_of}
use Rattle.octseq_dns_compress.proofs.Words.{IsWholeLabel, label_of, labels_at}
use Rattle.octseq_dns_compress.proofs.PlainLabels.{next_place, more_whole, more_labels}
use Rattle.octseq_dns_compress.proofs.plain.place_labels.Goals as goal

pub overflow_sub-starts : goal.overflow_sub-starts
overflow_sub-starts g c =
    let so_far = c.places.invariant in
    let octets = so_far.same in
    let end = so_far.end in
    let long = ap length octets in
    let within = c.len-end.ensures.within in
    let at_name = c.parser-parser.ensures in
    let whole_end = ap (λ w. w.end) at_name in
    let whole_octets = ap (λ w. length w.octets) at_name in
    let it = next_place _ (ahead_of c.places.label-iterator) (label_place c.in-Some.label) _ _
    (omega (arith, end, long, within, c.len-end.ensures.end, whole_end, whole_octets)) c.in-Some.ensures.steps.1 in
    omega (arith, it.after, c.pos.ensures)

pub places-preserved : goal.places-preserved
places-preserved g c =
    let so_far = c.places.invariant in
    let octets = (place_of c.args.name.now).octets in
    let same = so_far.same in
    let end = so_far.end in
    let size = ap length same in
    let within = c.len-end.ensures.within in
    let at_name = c.parser-parser.ensures in
    let whole_end = ap (λ w. w.end) at_name in
    let whole_octets = ap (λ w. length w.octets) at_name in
    let here = ahead_of c.places.label-iterator in
    let place = label_place c.in-Some.label in
    let it = next_place _ here place _ _
    (omega (arith, end, size, within, c.len-end.ensures.end, whole_end, whole_octets)) c.in-Some.ensures.steps.1 in
    let at : c.pos.result - 1 ≡ place.position - 1 = omega (arith, c.pos.ensures) in
    let wire = ap wire_length c.in-Some.ensures.steps.0 in
    let inside : c.places.count < length c.places.starts =
    (omega (arith, so_far.within, so_far.room, c.if-count.false)) in
    record {
      few = omega (arith, so_far.few, wire, it.some);
      summed = (omega (arith, so_far.summed, wire, ap length c.as_slice.ensures.octets));
      most = (omega (arith, so_far.most, c.as_slice.ensures.most));
      within = (omega (arith, so_far.within, c.if-count.false));
      room = length-set c.places.starts c.places.count (c.pos.result - 1) ∙ so_far.room;
      same = it.octets ∙ same;
      end = it.end ∙ end;
      whole = more_whole octets c.places.starts c.places.count (c.pos.result - 1) inside so_far.whole
          (subst (λ o. IsWholeLabel o (c.pos.result - 1)) same (subst (IsWholeLabel here.octets) (sym at) it.whole));
      are = more_labels octets c.places.starts c.places.count (c.pos.result - 1) inside _ (labels_left c.next.new.self)
          (labels_of c.args.name.now)
          (ap (λ o. label_of o (c.pos.result - 1)) (sym same) ∙ ap (label_of here.octets) at ∙ it.label_is)
          (ap (λ left. labels_at octets (take c.places.count c.places.starts) ++ left) (sym c.in-Some.ensures.steps.0)
          ∙ so_far.are);
    }

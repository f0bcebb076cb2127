use Rattle.std.proofs.Common.{◌≡◌, ◌+◌, ◌<◌, ◌≤◌, [], ◌∷◌, ◌++◌, length, ap, ◌∙◌, arith, rules}
use Rattle.std.proofs.lemmas.List.{flat_map_more, length-append}
use Rattle.octseq_dns_name.specs.Name.{wire_length}
use Rattle.octseq_dns_name.specs.NameFormat.{bodies}
use Rattle.octseq_dns_name.specs.Refused.{ReadsLabelPart}
use Rattle.octseq_dns_name.proofs.Names.{wire_append}
use Rattle.octseq_dns_name.proofs.SpellingSteps.{read_label}
use Rattle.octseq_dns_name.proofs.Wires.{bodies_length}
use Rattle.octseq_dns_name.proofs.name.spelling.read_labels.Goals as goal

pub returns-in_default-clause-ok : goal.returns-in_default-clause-ok
returns-in_default-clause-ok c =
    let so_far = c.labels.invariant in
    let last : ReadsLabelPart c.labels.ahead.now c.in_ok-label.label.content [] = rw c.in_default.is at
    c.in_ok-label.ensures.ok in
    (so_far.done, so_far.appended, (c.labels.ahead.now, so_far.reads, last, c.in_ok-label.ensures.short))

pub returns-then-not-has_room-clause-refused : goal.returns-then-not-has_room-clause-refused
returns-then-not-has_room-clause-refused c =
    let so_far = c.labels.invariant in
    let label = c.in_ok-label.label.content in
    let octets = c.labels.octets.content in
    let size = ap length c.as_slice-slice.ensures.content in
    let some : 1 ≤ length label = search rules in
    let all = ap length so_far.appended in
    let is = bodies_length so_far.done in
    let both = wire_append so_far.done (label ∷ []) in
    let long : 255 < length octets + 1 + length c.as_slice-slice.result.now + 1 = search rules in
    let past : 255 < wire_length (so_far.done ++ label ∷ []) = omega (arith, long, size, all, is, both) in
    let read : ReadsLabelPart c.labels.ahead.now label (46 ∷ c.in-Some.rest.now) = search rules in (
      so_far.done,
      c.labels.ahead.now,
      so_far.reads,
      (label, c.in-Some.rest.now, read, some, c.in_ok-label.ensures.short, past),
    )

pub labels-preserved : goal.labels-preserved
labels-preserved c =
    let so_far = c.labels.invariant in
    let label = c.in_ok-label.label.content in
    let same = c.as_slice-slice.ensures.content in
    let size = ap length same in
    let some : 1 ≤ length label = search rules in
    let octets = c.labels.octets.content in
    let made = c.append_label.ensures in
    let slice = c.as_slice-slice.result.now in
    let fits : length octets + 1 + length slice + 1 ≤ 255 = search rules in
    let grown = ap length made ∙ length-append octets (length slice ∷ slice) in
    let appended : c.append_label.new.octets.content ≡ bodies (so_far.done ++ label ∷ []) =
    made ∙ ap (λ l. octets ++ length l ∷ l) same ∙ ap (λ before. before ++ length label ∷ label) so_far.appended
    ∙ flat_map_more (λ l. length l ∷ l) [] so_far.done label in
    let all = ap length appended in
    let is = bodies_length (so_far.done ++ label ∷ []) in
    let read : ReadsLabelPart c.labels.ahead.now label (46 ∷ c.in-Some.rest.now) = search rules in
    record {
      done = so_far.done ++ label ∷ [];
      reads = read_label c.args.text.now so_far.done c.labels.ahead.now label c.in-Some.rest.now so_far.reads
          read some c.in_ok-label.ensures.short (omega (arith, grown, fits, all, is));
      appended = appended;
      room = omega (arith, grown, fits);
    }

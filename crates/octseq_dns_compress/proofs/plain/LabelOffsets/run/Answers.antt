use Rattle.std.proofs.Common.{◌≡◌, ◌+◌, ◌-◌, ◌<◌, ◌++◌, ap, ◌∙◌, sym, length, take, drop, refl, arith, slice_index_or}
use Rattle.std.proofs.Common.{append-nil}
use Rattle.octseq_dns_compress.proofs.Words.{labels_wire, plain_labels}
use Rattle.octseq_dns_compress.proofs.PlainLabels.{run_inside, run_more}
use Rattle.octseq_dns_compress.proofs.plain.LabelOffsets.run.Goals as goal

-- the first label
pub labels-init : goal.labels-init
labels-init c =
    let self = c.args.self.now in
    let octets = self.octets.now in
    let starts = self.starts.now in
    let first = labels_wire (take c.args.from (plain_labels self)) in
    let start = slice_index_or starts c.args.from 0 in
    let inside : c.args.from < length (plain_labels self) = omega (arith, c.requires.some, c.requires.within) in
    let none : start - start ≡ 0 = omega arith in
    let end : start + (1 + slice_index_or octets start 0) ≡ start + 1 + c.from.result = omega (arith, c.from.ensures) in
    let whole = run_inside octets starts start start c.args.from first self.whole inside refl (omega arith) in
    record {
      some = omega arith;
      within = omega (arith, c.requires.some);
      ordered = omega arith;
      inside = omega (arith, whole, end);
      run = run_more octets starts start start c.args.from first self.whole inside refl (omega arith)
          (sym (append-nil first) ∙ ap (λ n. first ++ take n (drop start octets)) (sym none))
          ∙ ap (λ end. first ++ take (end - start) (drop start octets)) end;
    }

-- one more, which begins where they end
pub labels-preserved : goal.labels-preserved
labels-preserved c =
    let self = c.args.self.now in
    let octets = self.octets.now in
    let starts = self.starts.now in
    let first = labels_wire (take c.args.from (plain_labels self)) in
    let start = slice_index_or starts c.args.from 0 in
    let so_far = c.labels.invariant in
    let ordered = so_far.ordered in
    let inside : c.labels.index < length (plain_labels self) = omega (arith, c.labels-test.true, c.requires.within) in
    let here = c.if-self-index.true in
    let len = c.from-in-labels.ensures in
    let end : c.labels.end + (1 + slice_index_or octets c.labels.end 0) ≡ c.labels.end + (1 + c.from-in-labels.result) =
    omega (arith, len) in
    let whole = run_inside octets starts start c.labels.end c.labels.index first self.whole inside here ordered in
    record {
      some = omega (arith, so_far.some);
      within = omega (arith, c.labels-test.true);
      ordered = omega (arith, ordered);
      inside = omega (arith, whole, end);
      run = run_more octets starts start c.labels.end c.labels.index first self.whole inside here ordered so_far.run
          ∙ ap (λ end. first ++ take (end - start) (drop start octets)) end;
    }

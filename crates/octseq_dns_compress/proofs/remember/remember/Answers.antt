use Rattle.std.proofs.Common.{◌≤◌, ◌<◌, ◌-◌, ap, ◌∙◌, refl, sym, length, arith, true≢false, nat_lt, filter}
use Rattle.std.proofs.lemmas.List.Edits.{length-insert}
use Rattle.octseq_dns_compress.proofs.Words.{digest_of, plain_labels}
use Rattle.octseq_dns_compress.proofs.Keeping.{none_before, kept_none, kept_yet, kept_at, kept_far, kept_full, kept_all}
use Rattle.octseq_dns_compress.proofs.PlainLabels.{last_label}
use Rattle.octseq_dns_compress.proofs.remember.remember.Goals.{then-at-gt-PLACE_MAX-via-then-at-gt-PLACE_MAX}
use Rattle.octseq_dns_compress.proofs.remember.remember.Goals.{then-at-gt-PLACE_MAX-via-else-at-gt-PLACE_MAX+then-is_full}
use Rattle.octseq_dns_compress.proofs.remember.remember.Goals as goal

pub returns-then-ending-gt-POINTERS_MAX-clause-kept : goal.returns-then-ending-gt-POINTERS_MAX-clause-kept
returns-then-ending-gt-POINTERS_MAX-clause-kept g c octets names agrees ends written =
    kept_none g.T.Compressor.most agrees ends c.requires.written written c.if-ending-gt-POINTERS_MAX.true

pub overflow_add-end : goal.overflow_add-end
overflow_add-end g c = omega (arith, c.requires.start, c.requires.short)

pub overflow_sub-at : goal.overflow_sub-at
overflow_sub-at g c =
    let so_far = c.labels.invariant in
    let begin = last_label (plain_labels c.args.name.now) c.labels.left c.label-label.result.now
    (omega (arith, c.labels-test.true)) (omega (arith, so_far.within, c.requires.written)) c.label-label.ensures in
    omega (arith, begin, so_far.end)

pub labels-init : goal.labels-init
labels-init g c =
    let all = ap length c.as_slice-older.ensures in
    record {
      within = omega arith;
      end = (omega (arith, c.requires.len));
      position = c.requires.position;
      more = omega (arith, all);
      few = c.requires.few;
      turned = omega arith;
      least = omega arith;
      on = omega arith;
      before = refl;
      kept = λ octets names agrees ends written.
          kept_yet g.T.Compressor.most agrees ends c.requires.written written _ (length c.as_slice-older.result.now) all
          c.requires.position;
    }

pub returns-then-at-gt-PLACE_MAX-clause-kept : goal.returns-then-at-gt-PLACE_MAX-clause-kept
returns-then-at-gt-PLACE_MAX-clause-kept g c octets names agrees ends written =
    let so_far = c.labels.invariant in
    let kept = so_far.kept octets names agrees ends written in
    let some : 0 < c.labels.left = omega (arith, c.labels-test.true) in
    let begin = last_label (plain_labels c.args.name.now) c.labels.left c.label-label.result.now some
    (omega (arith, so_far.within, c.requires.written)) c.label-label.ensures in
    let end = so_far.end in
    let at = c.labels.end - length c.label-label.result.now in
    elim c.then-at-gt-PLACE_MAX.branch [
      | then-at-gt-PLACE_MAX-via-then-at-gt-PLACE_MAX w ↦
          kept_far g.T.Compressor.most agrees ends c.requires.written written kept some so_far.within at
          (omega (arith, begin, end)) w.if-at-gt-PLACE_MAX.true
      | then-at-gt-PLACE_MAX-via-else-at-gt-PLACE_MAX+then-is_full w ↦
          kept_full g.T.Compressor.most agrees ends c.requires.written written kept some so_far.within at
          (omega (arith, begin, end)) (w.if-is_full.ensures.0 refl)
    ]

pub labels-preserved : goal.labels-preserved
labels-preserved g c =
    let so_far = c.labels.invariant in
    let held = g.T.Compressor.held c.labels.table in
    let inserted = c.in_ok-insert.ensures.ok in
    let long = ap length inserted ∙ length-insert held c.labels.position _ so_far.position in
    let within = so_far.within in
    let more = so_far.more in
    let few = so_far.few in
    let tick = c.tick.ensures in
    let room : ¬ (g.T.Compressor.most ≤ length held) = λ full. true≢false (sym (c.if-is_full.ensures.1 full)) in
    let begin = last_label (plain_labels c.args.name.now) c.labels.left c.label-label.result.now
    (omega (arith, c.labels-test.true)) (omega (arith, within, c.requires.written))
    c.label-label.ensures in
    let end = so_far.end in
    record {
      within = omega (arith, within);
      end = omega (arith, begin, end);
      position = omega (arith, long, more);
      more = omega (arith, long, more);
      few = omega (arith, long, room);
      turned = omega (arith, so_far.turned, tick, c.labels-test.true);
      least = (omega (arith, so_far.least, long, tick));
      on = (omega (arith, so_far.on, tick));
      before = ap (filter (λ t. nat_lt t.at c.args.start)) inserted
          ∙ none_before c.args.start held c.labels.position _ (omega (arith, begin, end)) ∙ so_far.before;
      kept = λ octets names agrees ends written.
          kept_at g.T.Compressor.most agrees ends c.requires.written written
          (so_far.kept octets names agrees ends written)
          (omega (arith, c.labels-test.true)) within (c.labels.end - length c.label-label.result.now)
          (omega (arith, begin, end)) (g.T.Compressor.held c.insert.new.self) _
          (c.digest.ensures ∙ ap digest_of c.label-label.ensures) end
          inserted (omega (arith, c.if-at-gt-PLACE_MAX.false)) (omega (arith, c.if-ending-gt-POINTERS_MAX.false)) room;
    }

pub returns-clause-kept : goal.returns-clause-kept
returns-clause-kept g c octets names agrees ends written =
    let so_far = c.labels.invariant in
    kept_all g.T.Compressor.most agrees ends c.requires.written written (so_far.kept octets names agrees ends written)
    (omega (arith, c.labels-test.false))

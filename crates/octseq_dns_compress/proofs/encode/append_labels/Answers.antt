use Rattle.std.proofs.Common.{◌++◌, ap, ◌∙◌, sym, length, length-append, take, arith, append_assoc}
use Rattle.octseq_dns_compress.proofs.Words.{labels_wire, plain_labels}
use Rattle.octseq.proofs.Limits.{past_more, within_not_past}
use Rattle.octseq_dns_compress.proofs.PlainLabels.{fewer_shorter}
use Rattle.octseq_dns_compress.proofs.encode.append_labels.Goals as goal

pub returns-in-Err-clause-short : goal.returns-in-Err-clause-short
returns-in-Err-clause-short g c short =
    let so_far = c.labels.invariant in
    let labels = plain_labels c.args.name.now in
    let index = c.labels.index in
    let less = c.labels-test.true in
    let count = c.requires.count in
    let long = ap length so_far.content
    ∙ length-append (g.B.AsOctets.content c.args.octets.now) (labels_wire (take index labels)) in
    let read = ap length c.run-after.ensures.run
    ∙ length-append (labels_wire (take index labels)) c.run-after.result.0.now in
    let within = c.run-after.ensures.within in
    let few = fewer_shorter labels c.run-after.result.1 c.args.count within in
    within_not_past g.B.AsOctets.limit _ c.requires.room (past_more g.B.AsOctets.limit _ _
    (omega (arith, long, read, few))
    (c.in-Err.ensures.appended.short.0 short))

pub labels-preserved : goal.labels-preserved
labels-preserved g c =
    let so_far = c.labels.invariant in
    let labels = plain_labels c.args.name.now in
    let index = c.labels.index in
    let old = g.B.AsOctets.content c.args.octets.now in
    let first = labels_wire (take index labels) in
    record {
      within = c.run-after.ensures.within;
      content = c.in_default.ensures.appended.ok ∙ ap (λ o. o ++ c.run-after.result.0.now) so_far.content
          ∙ append_assoc old first c.run-after.result.0.now ∙ ap (λ o. old ++ o) (sym c.run-after.ensures.run);
      borrows = c.in_default.ensures.borrows ∙ so_far.borrows;
    }

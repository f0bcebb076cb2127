use Rattle.std.proofs.Common.{◌≡◌, Err, map, length, refl, sym, ap, ◌∙◌, subst, rules}
use Rattle.octseq.specs.Limit.{ExceedsLimit}
use Rattle.octseq_dns_name.specs.Name.{wire_length}
use Rattle.octseq_dns_name.specs.Unfit.{AreUnfit}
use Rattle.octseq_dns_name.specs.declared.error.FromLabelsError.{FromLabelsError}
use Rattle.octseq_dns_name.proofs.Reports.{reported, none_reported}
use Rattle.octseq_dns_name.proofs.Unfits.{unfit, one_unfit, none_unfit}
use Rattle.octseq_dns_name.proofs.Wires.{wire_has}
use Rattle.octseq_dns_name.proofs.name.owned.Name.from_labels.Goals as goal

pub returns-in_err-wire-clause-refused : goal.returns-in_err-wire-clause-refused
returns-in_err-wire-clause-refused g c = λ other _.
    let labels = map (λ label. label.now) c.args.labels.now in
    let fault = c.in_err-wire.field-0.0 in
    let limit = g.B.AsOctets.limit in
    let is = unfit limit fault labels c.in_err-wire.ensures.wrong in
    reported c.from_residual.result fault (λ f. AreUnfit limit f labels) (search rules) is
    (λ f also. one_unfit limit fault f labels is also) other

pub returns-in_err-held-in_default-clause-refused : goal.returns-in_err-held-in_default-clause-refused
returns-in_err-held-in_default-clause-refused g c = λ other no_memory.
    let labels = map (λ label. label.now) c.args.labels.now in
    let limit = g.B.AsOctets.limit in
    let made = c.in_ok-wire.ensures.ok in
    let size : length c.as_slice.result.now ≡ wire_length labels =
    ap length c.as_slice.ensures.content ∙ ap length made.0 ∙ wire_has labels in
    let within : ¬ ExceedsLimit limit (length c.as_slice.result.now) = search rules in
    let is : c.from_residual-in_err-held-in_default.result ≡ Err FromLabelsError.Memory = search rules in (
      λ also. absurd (no_memory (let e = sym is ∙ also in let same : other ≡ FromLabelsError.Memory = cc in same)),
      λ unfits. absurd (none_unfit limit labels made.1 made.2
          (subst (λ n. ¬ ExceedsLimit limit n) size within) other unfits),
    )

pub returns-in-Some-clause-refused : goal.returns-in-Some-clause-refused
returns-in-Some-clause-refused g c = λ other _.
    let labels = map (λ label. label.now) c.args.labels.now in
    let limit = g.B.AsOctets.limit in
    let made = c.in_ok-wire.ensures.ok in
    let size : length c.in_ok-wire.wire.content ≡ wire_length labels = ap length made.0 ∙ wire_has labels in
    let past : ExceedsLimit limit (length c.in_ok-wire.wire.content) = search rules in
    let is : AreUnfit limit FromLabelsError.Short labels = (made.1, made.2, subst (ExceedsLimit limit) size past) in
    reported _ FromLabelsError.Short (λ f. AreUnfit limit f labels) refl is
    (λ f also. one_unfit limit FromLabelsError.Short f labels is also) other

pub returns-in_ok-held-in_default-clause-refused : goal.returns-in_ok-held-in_default-clause-refused
returns-in_ok-held-in_default-clause-refused g c = λ other _.
    let labels = map (λ label. label.now) c.args.labels.now in
    let limit = g.B.AsOctets.limit in
    let made = c.in_ok-wire.ensures.ok in
    let size : length c.as_slice.result.now ≡ wire_length labels =
    ap length c.as_slice.ensures.content ∙ ap length made.0 ∙ wire_has labels in
    let within : ¬ ExceedsLimit limit (length c.as_slice.result.now) = search rules in
    none_reported _ _ (λ f. AreUnfit limit f labels) refl
    (none_unfit limit labels made.1 made.2 (subst (λ n. ¬ ExceedsLimit limit n) size within)) other

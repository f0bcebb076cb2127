use Rattle.std.proofs.Common.{◌≡◌, ◌++◌, ℕ, List, ap, sym, ◌∙◌, subst, length}
use Rattle.std.proofs.lemmas.Fmt.{contents_after_writes}
use Rattle.std.proofs.lemmas.List.{length-append}
use Rattle.octseq_core.specs.Limit.{ExceedsLimit}
use Rattle.octseq_core.proofs.Limits.{within_not_past}
use Rattle.octseq_text.proofs.str.lines.append_from.Given as given
use Rattle.octseq_text.proofs.str.lines.append_from.Goals as goal
use Rattle.octseq_text.proofs.str.lines.append_from.Goals.{After-end}

appended : (g : given.Over) (c : After-end g)
    → (lines : List ℕ) × g.T.WriteLines.is_text c.args.value.now lines
    × (g.B.AsOctets.content c.end.result.text.now ≡ g.B.AsOctets.content c.args.text.now ++ lines)
appended g c =
    let shown = c.in-Ok.ensures.shown in
    let content = g.B.AsOctets.content in
    let written = shown.2 c.new-f.ensures.plain in
    let reported = contents_after_writes _ (λ s. content s.text.now) (λ _ _ _ t. t) _ _ _ written.wrote in
    let first = ap (λ s. content s.text.now) c.new-f.ensures.writer in
    let last = ap (λ s. content s.text.now) c.into_inner-appending.ensures in
    (shown.0, shown.1, c.end.ensures.ok ∙ last ∙ reported ∙ ap (λ x. x ++ shown.0) first)

pub returns-in-Ok-clause-ok : goal.returns-in-Ok-clause-ok
returns-in-Ok-clause-ok g c = rw (c.end.ensures.answer) (appended g c)

-- the text is within the limit, so no lines were appended that exceed it
pub returns-in-Ok-clause-past : goal.returns-in-Ok-clause-past
returns-in-Ok-clause-past g c = λ lines are past.
    let limit = g.B.AsOctets.limit in
    let old = g.B.AsOctets.content c.args.text.now in
    let made = appended g c in
    let same = c.requires.one _ _ made.1 are in
    let long = ap length (made.2 ∙ ap (λ y. old ++ y) same) ∙ length-append old lines in
    absurd (within_not_past limit _ c.end.ensures.within (subst (ExceedsLimit limit) (sym long) past))

use Rattle.std.proofs.Common.{◌≡◌, ◌++◌, ap, sym, ◌∙◌, subst, length}
use Rattle.std.proofs.lemmas.Fmt.{contents_after_writes}
use Rattle.std.proofs.lemmas.List.{length-append}
use Rattle.std.proofs.lemmas.Option.{IfSome_then}
use Rattle.std.specs.Option.{IfSome}
use Rattle.octseq_core.proofs.Limits.{within_not_past}
use Rattle.octseq_core.specs.Limit.{ExceedsLimit}
use Rattle.octseq_text.proofs.str.display.append_from.Given as given
use Rattle.octseq_text.proofs.str.display.append_from.Goals as goal
use Rattle.octseq_text.proofs.str.display.append_from.Goals.{After-drop-value}

appended : (g : given.Over) (c : After-drop-value g) → IfSome (g.D.Display.output c.args.value) (λ octets.
    g.B.AsOctets.content c.write-written.new.self.text.now ≡ g.B.AsOctets.content c.args.text.now ++ octets)
appended g c =
    IfSome_then (g.D.Display.output c.args.value) c.in-Ok.ensures.writes
    (λ octets writes. contents_after_writes _ (λ s. g.B.AsOctets.content s.text.now) (λ _ _ _ t. t) _ _ _ writes)

pub returns-in-Ok-clause-ok : goal.returns-in-Ok-clause-ok
returns-in-Ok-clause-ok g c =
    rw (c.end.ensures.answer)
    (IfSome_then (g.D.Display.output c.args.value) (appended g c) (λ octets made. c.end.ensures.ok ∙ made))

-- the text is within the limit, so no value that exceeds it was appended
pub returns-in-Ok-clause-past : goal.returns-in-Ok-clause-past
returns-in-Ok-clause-past g c =
    let limit = g.B.AsOctets.limit in
    let content = g.B.AsOctets.content c.args.text.now in
    IfSome_then (g.D.Display.output c.args.value) (appended g c)
    (λ octets made past.
    let long = ap length (c.end.ensures.ok ∙ made) ∙ length-append content octets in
    absurd (within_not_past limit _ c.end.ensures.within (subst (ExceedsLimit limit) (sym long) past)))

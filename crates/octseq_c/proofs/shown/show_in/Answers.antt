use Rattle.std.proofs.Common.{◌++◌, take, ap, ◌∙◌, subst, arith}
use Rattle.std.proofs.lemmas.Fmt.{contents_after_writes}
use Rattle.octseq_c.specs.OwnText.{IsOwnText}
use Rattle.octseq_c.proofs.OwnText.{both_some, when_shown, well_formed_from, whole_front}
use Rattle.octseq_c.proofs.shown.show_in.Goals as goal

pub returns-clause-shown : goal.returns-clause-shown
returns-clause-shown g c = λ t.
    let writes = when_shown c.write-shown.result (c.finish.ensures.is_shown.0 t) c.write-shown.ensures.writes in
    both_some (g.D.Display.output c.args.value.now) writes c.requires.fits (λ text writes long.
    let writer = c.write-shown.new.self in
    let reported = contents_after_writes _ (λ w. take w.len w.octets.now) (λ _ _ _ reported. reported) _ _ _ writes in
    let first = ap (λ n. take n c.new-writer.result.octets.now ++ text) c.new-writer.ensures.len in
    c.finish.ensures.octets
    ∙ whole_front writer.len writer.octets.now text (omega (arith, writer.within, writer.room)) (reported ∙ first)
    (omega (arith, long, writer.room, c.requires.room)))

pub returns-clause-utf8 : goal.returns-clause-utf8
returns-clause-utf8 g c = λ t.
    let writes = when_shown c.write-shown.result (c.finish.ensures.is_shown.0 t) c.write-shown.ensures.writes in
    both_some (g.D.Display.output c.args.value.now) writes c.requires.fits (λ text writes long.
    let reported = contents_after_writes _ (λ w. take w.len w.octets.now) (λ _ _ _ reported. reported) _ _ _ writes in
    let first = ap (λ n. take n c.new-writer.result.octets.now ++ text) c.new-writer.ensures.len in
    well_formed_from text (subst IsOwnText (reported ∙ first) c.write-shown.new.self.text))

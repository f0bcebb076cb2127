use Rattle.std.proofs.Common.{◌++◌, take, length, ap, sym, ◌∙◌, subst, arith}
use Rattle.std.proofs.lemmas.Fmt.{contents_after_writes}
use Rattle.octseq_dns_message.proofs.MessageTexts.{one_message_text}
use Rattle.octseq_dns_message.specs.MessageText.{IsMessageText}
use Rattle.octseq_dns_message.specs.Parsed.{header_of, questions_of, answers_of, authorities_of, additionals_of}
use Rattle.octseq_c.specs.OwnText.{IsOwnText}
use Rattle.octseq_c.proofs.OwnText.{well_formed_from, when_shown, whole_front}
use Rattle.octseq_c.proofs.text.put_in.Goals as goal

pub returns-clause-shown : goal.returns-clause-shown
returns-clause-shown g c = λ t.
    let message = c.args.message.now in
    let shown = when_shown c.fmt-shown.result (c.finish.ensures.is_shown.0 t) c.fmt-shown.ensures.shown in
    let writer = c.into_inner.result in
    let written = shown.2 c.new-f.ensures.plain in
    let reported = contents_after_writes _ (λ w. take w.len w.octets.now)
    (λ _ _ _ reported. reported) _ _ _ written.wrote in
    let first = ap (λ w. take w.len w.octets.now) c.new-f.ensures.writer in
    let last = ap (λ w. take w.len w.octets.now) c.into_inner.ensures in
    let none = ap (λ n. take n c.new.result.octets.now ++ shown.0) c.new.ensures.len in
    let front = last ∙ reported ∙ ap (λ front. front ++ shown.0) first ∙ none in
    let long = ap length (one_message_text _ _ _ _ _ _ _ shown.1 c.requires.fits.1) in
    let whole = whole_front writer.len writer.octets.now shown.0 (omega (arith, writer.within, writer.room)) front
    (omega (arith, long, c.requires.fits.2, writer.room, c.requires.room)) in (
      subst (IsMessageText (header_of message) (questions_of message) (answers_of message) (authorities_of message)
          (additionals_of message)) (sym (c.finish.ensures.octets ∙ whole)) shown.1,
      well_formed_from c.finish.result.octets.now
          (subst IsOwnText (front ∙ sym whole ∙ sym c.finish.ensures.octets) writer.text),
    )

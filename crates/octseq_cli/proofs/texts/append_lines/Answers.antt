use Rattle.std.proofs.Common.{◌≡◌, ◌∙◌, ◌∷◌, ◌++◌, [], ℕ, nat_eq, true, false, sym, ap, subst, append_assoc, arith}
use Rattle.std.proofs.KnownBytes.{Consumes-trans}
use Rattle.std.proofs.lemmas.Bool.Decides.{nat_tests}
use Rattle.octseq.proofs.Errors.{on_err}
use Rattle.octseq_cli.proofs.TextSteps.{last_more, text_more}
use Rattle.octseq_cli.specs.Texts.{EndsWithLineFeed, IsLineText}
use Rattle.octseq_cli.proofs.texts.append_lines.Goals as goal
use Rattle.octseq_cli.proofs.texts.append_lines.Goals.{else-is_ended-via-then-is_ended+else-is_feed}
use Rattle.octseq_cli.proofs.texts.append_lines.Goals.{else-is_ended-via-else-is_ended}

feed_is : (octet : ℕ) → nat_eq octet 10 ≡ true → octet ≡ 10
feed_is octet e = grind (arith, nat_tests)

no_feed_is : (octet : ℕ) → nat_eq octet 10 ≡ false → ¬ (octet ≡ 10)
no_feed_is octet e = grind (arith, nat_tests)

pub returns-in_err-append-clause-err : goal.returns-in_err-append-clause-err
returns-in_err-append-clause-err g c =
    let read = c.loop.invariant.read in
    on_err c.from_residual-in_err-append.result (
      read.0 ++ c.in-Some.octet ∷ [],
      Consumes-trans (g.R.Read.remaining c.args.reader.now) (g.R.Read.remaining c.loop.reader)
          (g.R.Read.remaining c.read_octet.new.reader) read.0 (c.in-Some.octet ∷ []) read.2
          (rw c.in-Some.is at c.in_ok-octet.ensures.some),
    )

pub loop-preserved : goal.loop-preserved
loop-preserved g c =
    let so_far = c.loop.invariant in
    let text = c.loop.text.items in
    let octet = c.in-Some.octet in
    let read = so_far.read in
    let grown = c.in_ok-append.ensures in
    let next : EndsWithLineFeed text → ¬ (octet ≡ 10) = elim c.else-is_ended.branch [
      | else-is_ended-via-then-is_ended+else-is_feed w ↦ λ e. w.if-is_feed.false
      | else-is_ended-via-else-is_ended w ↦ λ e. absurd (so_far.is_open w.if-is_ended.false e)
    ] in
    record {
      text = subst IsLineText (sym grown) (text_more text octet so_far.text next);
      is_ended = λ e. subst EndsWithLineFeed (sym grown) (last_more 10 text octet ∙ feed_is octet e);
      is_open = λ e ended. no_feed_is octet e (sym (last_more 10 text octet) ∙ subst EndsWithLineFeed grown ended);
      read = (
        read.0 ++ octet ∷ [],
        grown ∙ ap (λ l. l ++ octet ∷ []) read.1 ∙ append_assoc c.args.text.now.items read.0 (octet ∷ []),
        Consumes-trans (g.R.Read.remaining c.args.reader.now) (g.R.Read.remaining c.loop.reader)
            (g.R.Read.remaining c.read_octet.new.reader) read.0 (octet ∷ []) read.2
            (rw c.in-Some.is at c.in_ok-octet.ensures.some),
      );
    }

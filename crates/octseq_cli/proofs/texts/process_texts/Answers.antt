use Rattle.std.proofs.Common.{◌≡◌, ◌+◌, ◌≤◌, [], ◌∷◌, List, ℕ, nat_eq, length, Bool, true, false, Option, Ok, ap}
use Rattle.std.proofs.Common.{refl, arith}
use Rattle.std.proofs.KnownBytes.{Appends-nil, Consumes-nil}
use Rattle.std.proofs.lemmas.Bool.Decides.{nat_tests}
use Rattle.octseq.proofs.Errors.{on_err}
use Rattle.octseq_cli.proofs.Steps.{broke_reading, broken, not_noted, run_ended, taken_more, taken_none}
use Rattle.octseq_cli.proofs.TextSteps.{first_text, next_step, no_next}
use Rattle.std.specs.Prelude.{IsTrue}
use Rattle.octseq_cli.specs.Frames.{IsNoted}
use Rattle.octseq_cli.proofs.texts.process_texts.Goals as goal

-- a vector is empty if its length is 0, and isn't otherwise
empty_is : (items : List ℕ) (len : ℕ) → len ≡ length items → true ≡ nat_eq len 0 → items ≡ []
empty_is [] len e is = refl
empty_is (octet ∷ items) len e is = absurd (grind (arith, nat_tests))

some_are : (items : List ℕ) (len : ℕ) → len ≡ length items → false ≡ nat_eq len 0 → 1 ≤ length items
some_are [] len e is = absurd (grind (arith, nat_tests))
some_are (octet ∷ items) len e is = omega arith

true_is : (b : Bool) → IsTrue b → b ≡ true
true_is true is = refl
true_is false is = absurd (cc)

-- no note was to be written
nothing_noted : (b : Bool) (noted : Option (List ℕ)) → IsNoted b b [] noted noted
nothing_noted true noted = ([], refl, Appends-nil noted)
nothing_noted false noted = (refl, Appends-nil noted)

pub loop-index-init : goal.loop-index-init
loop-index-init g c = record {
  one = c.one_piece.ensures;
  taken = taken_none (first_text (g.C.FrameCommand.is_piece c.args.command));
}

pub returns-in_err-is_over-clause-broke : goal.returns-in_err-is_over-clause-broke
returns-in_err-is_over-clause-broke g c =
    on_err c.from_residual.result
    (broke_reading c.loop-index.invariant.taken (g.R.Read.remaining c.read_text.new.reader)
    c.in_err-is_over.ensures.err)

pub returns-then-is_empty : goal.returns-then-is_empty
returns-then-is_empty g c =
    let read = c.in_ok-is_over.ensures.text in
    let so_far = c.loop-index.invariant in
    let text = c.read_text.new.text in
    let none = empty_is text.items text.len text.ok.0 c.if-is_empty.ensures in
    let last =
    no_next so_far.one (c.loop-index.index + 1) c.loop-index.is_all c.in_ok-is_over.is_over text.items read.0 none
    read.1 in
    let end = c.in_ok-is_over.ensures.end (ap (λ b. Ok b) last.0) in
    let run =
    run_ended c.loop-index.is_all c.loop-index.is_noted c.ended.ensures
    (taken_more so_far.taken true c.loop-index.is_noted read.2 last.1
    ([], refl, Appends-nil (g.W.Write.contents c.loop-index.writer))
    (nothing_noted c.loop-index.is_noted (g.E.Write.contents c.loop-index.errors))) end in
    record { ok = run.0; end = run.1; broke = run.2; unnoted = run.3 }

pub returns-in_err-piece-clause-broke : goal.returns-in_err-piece-clause-broke
returns-in_err-piece-clause-broke g c =
    let read = c.in_ok-is_over.ensures.text in
    on_err c.from_residual-in_err-piece.result
    (broke_reading c.loop-index.invariant.taken (g.R.Read.remaining c.read_text.new.reader) (read.0, read.2))

pub returns-in_err-is_noted-clause-broke : goal.returns-in_err-is_noted-clause-broke
returns-in_err-is_noted-clause-broke g c =
    let read = c.in_ok-is_over.ensures.text in
    let piece = c.in_ok-piece.piece in
    let so_far = c.loop-index.invariant in
    let text = c.read_text.new.text in
    let some = some_are text.items text.len text.ok.0 c.if-is_empty.ensures in
    on_err c.from_residual-in_err-is_noted.result
    (broken (taken_more so_far.taken {after = g.W.Write.contents c.write_piece.new.writer} false false read.2
    (next_step so_far.one (c.loop-index.index + 1) c.loop-index.is_all piece.is_fine c.in_ok-is_over.is_over text.items
    read.0 piece.output.items piece.note.items read.1 some (rw c.as_slice.ensures.value at c.in_ok-piece.ensures))
    c.in_err-is_noted.ensures.front (not_noted c.loop-index.is_noted piece.note.items
    (ap g.E.Write.contents c.in_err-is_noted.ensures.unnoted)))
    (λ over. c.in_ok-is_over.ensures.end (ap (λ b. Ok b) (true_is c.in_ok-is_over.is_over over))))

pub returns-then-is_over : goal.returns-then-is_over
returns-then-is_over g c =
    let read = c.in_ok-is_over.ensures.text in
    let piece = c.in_ok-piece.piece in
    let so_far = c.loop-index.invariant in
    let text = c.read_text.new.text in
    let some = some_are text.items text.len text.ok.0 c.if-is_empty.ensures in
    let wrote = c.in_ok-is_noted.ensures in
    let noted = c.in_ok-is_noted.is_noted in
    let end = c.in_ok-is_over.ensures.end (ap (λ b. Ok b) c.if-is_over.true) in
    let run =
    run_ended c.both-is_all.result noted c.ended-then-is_over.ensures
    (rw c.both-is_all.ensures (taken_more so_far.taken true noted read.2
    (next_step so_far.one (c.loop-index.index + 1) c.loop-index.is_all piece.is_fine true text.items read.0
    piece.output.items piece.note.items (rw c.if-is_over.true at read.1) some
    (rw c.as_slice.ensures.value at c.in_ok-piece.ensures)) (piece.output.items, refl, wrote.ok) wrote.noted)) end in
    record { ok = run.0; end = run.1; broke = run.2; unnoted = run.3 }

pub loop-index-preserved : goal.loop-index-preserved
loop-index-preserved g c =
    let read = c.in_ok-is_over.ensures.text in
    let piece = c.in_ok-piece.piece in
    let so_far = c.loop-index.invariant in
    let text = c.read_text.new.text in
    let some = some_are text.items text.len text.ok.0 c.if-is_empty.ensures in
    let wrote = c.in_ok-is_noted.ensures in
    rw c.both-is_all.ensures
    record {
      one = so_far.one;
      taken = taken_more so_far.taken true c.in_ok-is_noted.is_noted read.2
          (next_step so_far.one (c.loop-index.index + 1) c.loop-index.is_all piece.is_fine false text.items read.0
          piece.output.items piece.note.items (rw c.if-is_over.false at read.1) some
          (rw c.as_slice.ensures.value at c.in_ok-piece.ensures)) (piece.output.items, refl, wrote.ok) wrote.noted;
    }

pub returns-clause-broke : goal.returns-clause-broke
returns-clause-broke g c =
    broke_reading c.loop-index.invariant.taken (g.R.Read.remaining c.loop-index.reader)
    ([], Consumes-nil (g.R.Read.remaining c.loop-index.reader))

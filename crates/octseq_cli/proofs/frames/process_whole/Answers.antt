use Rattle.std.proofs.Common.{[], true, false, ap, refl}
use Rattle.octseq.proofs.Errors.{on_err}
use Rattle.octseq_cli.proofs.Steps.{broke_reading, broken, not_noted, run_ended, read_on, taken_more, taken_none}
use Rattle.octseq_cli.proofs.Taken.{whole_step}
use Rattle.octseq_cli.specs.Frames.{IsWholeOut}
use Rattle.octseq_cli.proofs.frames.process_whole.Goals as goal

pub returns-in_err-input-clause-broke : goal.returns-in_err-input-clause-broke
returns-in_err-input-clause-broke g c =
    on_err c.from_residual.result
    (broke_reading (taken_none (read_on (IsWholeOut (g.C.FrameCommand.is_piece c.args.command 1)) []))
    (g.R.Read.remaining c.read_all.new.reader) c.in_err-input.ensures.some_lost)

pub returns-in_err-piece-clause-broke : goal.returns-in_err-piece-clause-broke
returns-in_err-piece-clause-broke g c =
    on_err c.from_residual-in_err-piece.result
    (broke_reading (taken_none (read_on (IsWholeOut (g.C.FrameCommand.is_piece c.args.command 1)) []))
    (g.R.Read.remaining c.read_all.new.reader) (c.in_ok-input.input.items, c.in_ok-input.ensures.lost))

pub returns-in_err-is_noted-clause-broke : goal.returns-in_err-is_noted-clause-broke
returns-in_err-is_noted-clause-broke g c =
    let piece = c.in_ok-piece.piece in
    on_err c.from_residual-in_err-is_noted.result
    (broken (taken_more (taken_none (read_on (IsWholeOut (g.C.FrameCommand.is_piece c.args.command 1)) [])) false false
    c.in_ok-input.ensures.lost (whole_step (g.C.FrameCommand.is_piece c.args.command) c.one_piece.ensures
    (rw c.as_slice.ensures.value at c.in_ok-piece.ensures)) c.in_err-is_noted.ensures.front
    (not_noted true piece.note.items (ap g.E.Write.contents c.in_err-is_noted.ensures.unnoted)))
    (λ _. c.in_ok-input.ensures.end))

pub returns : goal.returns
returns g c =
    let piece = c.in_ok-piece.piece in
    let wrote = c.in_ok-is_noted.ensures in
    let noted = c.in_ok-is_noted.is_noted in
    let run =
    run_ended piece.is_fine noted c.ended.ensures
    (taken_more (taken_none (read_on (IsWholeOut (g.C.FrameCommand.is_piece c.args.command 1)) [])) true noted
    c.in_ok-input.ensures.lost (whole_step (g.C.FrameCommand.is_piece c.args.command) c.one_piece.ensures
    (rw c.as_slice.ensures.value at c.in_ok-piece.ensures))
    (piece.output.items, refl, wrote.ok) wrote.noted) c.in_ok-input.ensures.end in
    record { ok = run.0; end = run.1; broke = run.2; unnoted = run.3 }

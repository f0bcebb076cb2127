use Rattle.std.proofs.Common.{[], true, false, Ok, ap, refl}
use Rattle.std.proofs.KnownBytes.{Consumes-nil}
use Rattle.octseq.proofs.Errors.{on_err}
use Rattle.octseq_cli.proofs.Steps.{broke_reading, broken, not_noted, run_ended, taken_more, taken_none}
use Rattle.octseq_cli.proofs.Taken.{end_step, first_step, frame_step}
use Rattle.octseq_cli.proofs.frames.process_stream.Goals as goal

pub loop-index-init : goal.loop-index-init
loop-index-init g c = record {
  laws = record {
    apart = c.one_end.ensures.apart;
    none = c.one_end.ensures.rest;
    one_piece = c.one_piece.ensures;
    one_end = c.one_end.ensures.one;
  };
  taken = taken_none (first_step (g.C.FrameCommand.fits c.args.command) (g.C.StreamCommand.code c.args.command)
      (g.C.FrameCommand.is_piece c.args.command) (g.C.StreamCommand.is_end c.args.command));
}

pub returns-in_err-read_next-clause-broke : goal.returns-in_err-read_next-clause-broke
returns-in_err-read_next-clause-broke g c =
    on_err c.from_residual.result
    (broke_reading c.loop-index.invariant.taken (g.R.Read.remaining c.read_next.new.reader)
    c.in_err-read_next.ensures.err)

pub returns-in_err-piece-in-Frame-clause-broke : goal.returns-in_err-piece-in-Frame-clause-broke
returns-in_err-piece-in-Frame-clause-broke g c =
    on_err c.from_residual-in_err-piece-in-Frame.result
    (broke_reading c.loop-index.invariant.taken (g.R.Read.remaining c.read_next.new.reader)
    (_, (c.in_ok-read_next.ensures.frame (ap (λ n. Ok n) c.in-Frame.is)).1))

pub returns-in_err-is_noted-in-Frame-clause-broke : goal.returns-in_err-is_noted-in-Frame-clause-broke
returns-in_err-is_noted-in-Frame-clause-broke g c =
    let read = c.in_ok-read_next.ensures.frame (ap (λ n. Ok n) c.in-Frame.is) in
    let piece = c.in_ok-piece-in-Frame.piece in
    let so_far = c.loop-index.invariant in
    on_err c.from_residual-in_err-is_noted-in-Frame.result
    (broken (taken_more so_far.taken {after = g.W.Write.contents c.write_piece.new.writer} false false read.1
    (frame_step so_far.laws _ _ piece.is_fine c.read_next.new.octets.items piece.output.items piece.note.items read.0
    (rw c.as_slice.ensures.value at c.in_ok-piece-in-Frame.ensures)) c.in_err-is_noted-in-Frame.ensures.front
    (not_noted c.loop-index.is_noted piece.note.items
    (ap g.E.Write.contents c.in_err-is_noted-in-Frame.ensures.unnoted))) (λ end. absurd (cc)))

pub returns-in_err-piece-in-End-clause-broke : goal.returns-in_err-piece-in-End-clause-broke
returns-in_err-piece-in-End-clause-broke g c =
    let read = c.in_ok-read_next.ensures.end c.in-End.ending (ap (λ n. Ok n) c.in-End.is) in
    on_err c.from_residual-in_err-piece-in-End.result
    (broke_reading c.loop-index.invariant.taken (g.R.Read.remaining c.read_next.new.reader) (read.0, read.2))

pub returns-in_err-is_noted-in-End-clause-broke : goal.returns-in_err-is_noted-in-End-clause-broke
returns-in_err-is_noted-in-End-clause-broke g c =
    let read = c.in_ok-read_next.ensures.end c.in-End.ending (ap (λ n. Ok n) c.in-End.is) in
    let piece = c.in_ok-piece-in-End.piece in
    let so_far = c.loop-index.invariant in
    on_err c.from_residual-in_err-is_noted-in-End.result
    (broken (taken_more so_far.taken {rest = g.R.Read.remaining c.read_next.new.reader}
    {after = g.W.Write.contents c.write_piece-in-End.new.writer} false false read.2
    (end_step so_far.laws _ _ piece.is_fine read.0 piece.output.items piece.note.items
    (c.in_ok-piece-in-End.ensures read.0 read.1)) c.in_err-is_noted-in-End.ensures.front
    (not_noted c.loop-index.is_noted piece.note.items
    (ap g.E.Write.contents c.in_err-is_noted-in-End.ensures.unnoted))) (λ _. read.3))

pub returns-in-End : goal.returns-in-End
returns-in-End g c =
    let read = c.in_ok-read_next.ensures.end c.in-End.ending (ap (λ n. Ok n) c.in-End.is) in
    let piece = c.in_ok-piece-in-End.piece in
    let so_far = c.loop-index.invariant in
    let wrote = c.in_ok-is_noted-in-End.ensures in
    let noted = c.in_ok-is_noted-in-End.is_noted in
    let run =
    run_ended c.both.result noted c.ended.ensures
    (rw c.both.ensures (taken_more so_far.taken true noted read.2
    (end_step so_far.laws _ _ piece.is_fine read.0 piece.output.items piece.note.items
    (c.in_ok-piece-in-End.ensures read.0 read.1)) (piece.output.items, refl, wrote.ok) wrote.noted)) read.3 in
    record { ok = run.0; end = run.1; broke = run.2; unnoted = run.3 }

pub loop-index-preserved : goal.loop-index-preserved
loop-index-preserved g c =
    let read = c.in_ok-read_next.ensures.frame (ap (λ n. Ok n) c.in-Frame.is) in
    let piece = c.in_ok-piece-in-Frame.piece in
    let so_far = c.loop-index.invariant in
    let wrote = c.in_ok-is_noted-in-Frame.ensures in
    rw c.both-is_all.ensures
    record {
      laws = so_far.laws;
      taken = taken_more so_far.taken true c.in_ok-is_noted-in-Frame.is_noted read.1
          (frame_step so_far.laws _ _ piece.is_fine c.read_next.new.octets.items piece.output.items piece.note.items
          read.0 (rw c.as_slice.ensures.value at c.in_ok-piece-in-Frame.ensures)) (piece.output.items, refl, wrote.ok)
          wrote.noted;
    }

pub returns-clause-broke : goal.returns-clause-broke
returns-clause-broke g c =
    broke_reading c.loop-index.invariant.taken (g.R.Read.remaining c.loop-index.reader)
    ([], Consumes-nil (g.R.Read.remaining c.loop-index.reader))

-- The room is the length of the slice.
use Rattle.std.specs.Prelude.{length}
use Rattle.octseq_callers.proofs.lent.put_line.Given as goal

abbrev pub ghosts-put_line_in : goal.ghosts-put_line_in
ghosts-put_line_in a = record { room = length a.out.now }

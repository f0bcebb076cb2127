-- `K` describes the slice.
use Rattle.std.specs.Prelude.{length}
use Rattle.octseq_c.proofs.lines.put_whole.Given as goal

abbrev pub ghosts-put_in : goal.ghosts-put_in
ghosts-put_in g a = record { room = length a.out.now; lender = a.out.ghost_name }

-- `K` describes the slice.
use Rattle.std.specs.Prelude.{length}
use Rattle.octseq_c.proofs.shown.show_whole.Given as goal

abbrev pub ghosts-show_in : goal.ghosts-show_in
ghosts-show_in g a = record { room = length a.out.now; lender = a.out.ghost_name }

-- A message can be moved if it isn't one that can't be.
use Rattle.std.proofs.Common.{List, [], ◌∷◌}
use Rattle.octseq_dns.specs.Moved.{CanMove}
use Rattle.octseq_dns.specs.Entry.{Record}

pub moves : (records : List Record) → ¬ (¬ CanMove records) → CanMove records
moves [] not_stuck = tt
moves (r ∷ records) not_stuck = (
  λ unknown some named. not_stuck (λ all. all.0 unknown some named),
  moves records (λ stuck. not_stuck (λ all. stuck all.1)),
)

-- The first k octets are zero.
use Rattle.std.proofs.Common.{◌≡◌, replicate, take}
use Rattle.octseq_format.proofs.padding.are_zeros.Given as goal

abbrev pub invariant-loop-k : goal.invariant-loop-k
invariant-loop-k l = record { zeros : take l.k l.octets ≡ replicate l.k 0 }

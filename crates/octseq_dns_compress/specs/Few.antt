-- Tables hold at most one target for each offset that a pointer can express.
use Rattle.std.proofs.Common.{ℕ, ◌≤◌, min, arith}

-- ---- lemmas: proved below this line, so what the words mean is read above it

pub array_few : (n : ℕ) → min n 16384 ≤ 16384
array_few n = omega arith

pub vector_few : 16384 ≤ 16384
vector_few = omega arith

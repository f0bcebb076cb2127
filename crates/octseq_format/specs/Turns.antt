-- How many loop turns a reading takes.
use Rattle.std.specs.Prelude.{ℕ, ◌+◌, ◌*◌, ◌≤◌}

-- A reading, whether it succeeds or fails, takes at most `base` turns, and `rate` for each octet that is left.
pub record TakesTurns (base rate octets old new : ℕ) : Type 0 where
  pub some : old ≤ new
  pub most : new ≤ old + base + rate * octets

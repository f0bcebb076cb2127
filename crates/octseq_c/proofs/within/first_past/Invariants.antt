-- The answers with fewer rows are within the limit.
use Rattle.std.proofs.Common.{ℕ, ◌<◌}
use Rattle.octseq_dns.specs.Parsed.{header_of, questions_of}
use Rattle.octseq_c.specs.Within.{FitsUpTo}
use Rattle.octseq_c.proofs.within.first_past.Given as goal

abbrev pub invariant-loop-count : goal.invariant-loop-count
invariant-loop-count l = record {
  fit : (other : ℕ) → other < l.count
      → FitsUpTo (header_of l.message) l.flags (questions_of l.message) l.source l.rows l.limit other;
}

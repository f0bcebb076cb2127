-- The counter says how many aliases were followed.
use Rattle.std.proofs.Common.{◌≡◌, ℕ, ◌+◌, ◌*◌, ◌≤◌, length}
use Rattle.octseq_dns_message.specs.AliasTurns.{chain_turns}
use Rattle.octseq_dns_message.specs.Canonical.{Chain}
use Rattle.octseq_dns_message.specs.Parsed.{answers_of}
use Rattle.octseq_dns_name.specs.Name.{Name}
use Rattle.octseq_dns_name.specs.Read.{name_of}
use Rattle.octseq_dns_message.proofs.message.Message.canonical_name_counted.Given as goal

abbrev pub invariant-loop-followed : goal.invariant-loop-followed
invariant-loop-followed g l = record {
  on : (n : ℕ) (last : Name) → Chain l.class (answers_of l.fn.self) n (name_of l.name) last
      → Chain l.class (answers_of l.fn.self) (l.followed + n) (name_of l.initial.name) last;
  back : (n : ℕ) (last : Name) → Chain l.class (answers_of l.fn.self) n (name_of l.initial.name) last
      → (m : ℕ) × (n ≡ l.followed + m) × Chain l.class (answers_of l.fn.self) m (name_of l.name) last;
  least : (n m : ℕ) (last : Name) (left : Chain l.class (answers_of l.fn.self) n (name_of l.name) last)
      (whole : Chain l.class (answers_of l.fn.self) m (name_of l.initial.name) last)
      → l.fn.turns + chain_turns l.class (answers_of l.fn.self) m (name_of l.initial.name) last whole
      ≤ l.turns + chain_turns l.class (answers_of l.fn.self) n (name_of l.name) last left;
  each : l.fn.turns + l.followed * 2 ≤ l.turns;
  turns : l.turns ≤ l.fn.turns + l.followed * (511 * length (answers_of l.fn.self));
}

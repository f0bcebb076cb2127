-- This many targets are known to come before the key, and this many after it.
use Rattle.std.proofs.Common.{◌≡◌, ◌+◌, ◌*◌, ◌^◌, ◌-◌, ◌<◌, ◌≤◌, ℕ, length, slice_index_or}
use Rattle.std.specs.declared.cmp.Ordering.{Ordering}
use Rattle.octseq_dns_compress.proofs.Words.{key, key_cmp, Target}
use Rattle.octseq_dns_compress.proofs.search.find_by_halves.Given as goal

abbrev pub invariant-halves : goal.invariant-halves
invariant-halves l =
    let octets = l.fn.octets in
    let targets = l.fn.targets in
    let key = key l.fn.next l.fn.label in
    record {
      within : l.from + l.left ≤ length targets;
      before : (k : ℕ) (d : Target) → k < l.from → key_cmp octets (slice_index_or targets k d) key ≡ Ordering.Less;
      after : (k : ℕ) (d : Target) → l.from + l.left ≤ k → k < length targets
          → key_cmp octets (slice_index_or targets k d) key ≡ Ordering.Greater;
      some : l.fn.turns ≤ l.turns;
      halved : 2 ^ (l.turns - l.fn.turns) * l.left ≤ length targets;
      least : length targets + 2 ≤ (l.left + 2) * 2 ^ (l.turns - l.fn.turns);
      most : l.turns ≤ l.fn.turns + 15;
    }

abbrev pub decreases-halves : goal.decreases-halves
decreases-halves l = l.left

-- The strings so far are appended, and the others are left.
use Rattle.std.proofs.Common.{◌≡◌, ◌<◌, ◌++◌, ℕ, List, length, map, drop}
use Rattle.octseq.specs.Limit.{ExceedsLimit}
use Rattle.octseq_dns_data.specs.Strings.{spelling}
use Rattle.octseq_dns.proofs.txt.append_each.Given as goal

abbrev pub invariant-loop-string : goal.invariant-loop-string
invariant-loop-string g l = record {
  ahead : g.B.AsOctets.content l.octets ++ spelling (map (λ string. string.now) (drop l.string-index l.strings))
      ≡ g.B.AsOctets.content l.fn.octets ++ spelling (map (λ string. string.now) l.strings);
  grown : (more : List ℕ) × (g.B.AsOctets.content l.octets ≡ g.B.AsOctets.content l.fn.octets ++ more);
  fits : 0 < l.string-index → ¬ ExceedsLimit g.B.AsOctets.limit (length (g.B.AsOctets.content l.octets));
  borrows : g.B.AsOctets.borrows l.octets ≡ g.B.AsOctets.borrows l.fn.octets;
}

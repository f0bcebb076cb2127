-- The prefixes that aren't ahead were appended.
use Rattle.std.proofs.Common.{◌≡◌, ◌++◌, ℕ, List, length}
use Rattle.octseq_bgp.specs.Lists.{prefixes_left}
use Rattle.octseq_bgp.specs.Rewritten.{AreFew, prefixes_anew}
use Rattle.octseq_bgp.specs.Written.{prefixes_octets}
use Rattle.octseq_bgp.proofs.message.rewriting.prefixes.put_prefixes.Given as goal

abbrev pub invariant-prefixes : goal.invariant-prefixes
invariant-prefixes g l =
    let content = g.B.AsOctets.content in
    record {
      done : List ℕ;
      appended : content l.builder ≡ content l.fn.builder ++ done;
      split : prefixes_octets (prefixes_anew (prefixes_left l.fn.prefixes))
          ≡ done ++ prefixes_octets (prefixes_anew (prefixes_left l.ahead));
      few : AreFew (prefixes_left l.ahead);
      borrows : g.B.AsOctets.borrows l.builder ≡ g.B.AsOctets.borrows l.fn.builder;
    }

abbrev pub decreases-prefixes : goal.decreases-prefixes
decreases-prefixes g l = length (prefixes_left l.ahead)

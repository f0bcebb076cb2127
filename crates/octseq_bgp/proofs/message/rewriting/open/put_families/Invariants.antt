-- The families that aren't ahead were appended.
use Rattle.std.proofs.Common.{◌≡◌, ◌++◌, ℕ, List, length, map}
use Rattle.octseq_format.specs.Row.{row_octets}
use Rattle.octseq_bgp.specs.ItemOctets.{tuple_octets}
use Rattle.octseq_bgp.specs.Items.{items_left}
use Rattle.octseq_bgp.specs.RewrittenOpen.{family_anew}
use Rattle.octseq_bgp.proofs.message.rewriting.open.put_families.Given as goal

abbrev pub invariant-families : goal.invariant-families
invariant-families g l =
    let content = g.B.AsOctets.content in
    record {
      done : List ℕ;
      appended : content l.octets ≡ content l.fn.octets ++ done;
      split : row_octets tuple_octets (map family_anew (items_left l.fn.families))
          ≡ done ++ row_octets tuple_octets (map family_anew (items_left l.ahead));
      borrows : g.B.AsOctets.borrows l.octets ≡ g.B.AsOctets.borrows l.fn.octets;
    }

abbrev pub decreases-families : goal.decreases-families
decreases-families g l = length (items_left l.ahead)

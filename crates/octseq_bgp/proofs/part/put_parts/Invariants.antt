-- The octets of some parts were appended, and the others fit.
use Rattle.std.proofs.Common.{◌≡◌, ◌++◌, ℕ, List, length, map}
use Rattle.std.specs.List.{AllByRecursion}
use Rattle.octseq_format.specs.Row.{row_octets}
use Rattle.octseq_bgp.proofs.part.put_parts.Given as goal

abbrev pub invariant-parts : goal.invariant-parts
invariant-parts g l =
    let p = g.P.Part in
    let content = g.B.AsOctets.content in
    let left = map p.says l.left in
    let all = map p.says l.fn.parts in
    record {
      done : List ℕ;
      appended : content l.builder ≡ content l.fn.builder ++ done;
      split : row_octets (p.octets l.wide) all ≡ done ++ row_octets (p.octets l.wide) left;
      fit : AllByRecursion (p.fits l.wide) left;
      borrows : g.B.AsOctets.borrows l.builder ≡ g.B.AsOctets.borrows l.fn.builder;
    }

abbrev pub decreases-parts : goal.decreases-parts
decreases-parts g l = length l.left

-- The octets of some items were appended, and the others fit.
use Rattle.std.proofs.Common.{◌≡◌, ◌++◌, ℕ, List, length, map}
use Rattle.std.specs.List.{AllByRecursion}
use Rattle.octseq_format.specs.Laws.{HasOctets}
use Rattle.octseq_format.specs.Row.{row_octets}
use Rattle.octseq_format.proofs.values.put_values.Given as goal

abbrev pub invariant-values : goal.invariant-values
invariant-values g l =
    let f = g.F.Format in
    let content = g.B.AsOctets.content in
    let left = map (λ v. f.says (f.found v)) l.left in
    let all = map (λ v. f.says (f.found v)) l.fn.values in
    record {
      done : List ℕ;
      appended : content l.builder ≡ content l.fn.builder ++ done;
      split : row_octets f.octets all ≡ done ++ row_octets f.octets left;
      fit : HasOctets (row_octets f.octets) (AllByRecursion f.fits) left;
      borrows : g.B.AsOctets.borrows l.builder ≡ g.B.AsOctets.borrows l.fn.builder;
    }

abbrev pub decreases-values : goal.decreases-values
decreases-values g l = length l.left

-- The octets of some items were counted, and the others are ahead.
use Rattle.std.proofs.Common.{◌≡◌, ◌+◌, length, map}
use Rattle.std.specs.List.{AllByRecursion}
use Rattle.octseq_format.specs.Row.{row_octets}
use Rattle.octseq_format.proofs.values.values_len.Given as goal

abbrev pub invariant-values : goal.invariant-values
invariant-values g l =
    let f = g.F.Format in
    let left = map (λ v. f.says (f.found v)) l.left in
    let all = map (λ v. f.says (f.found v)) l.fn.values in
    record {
      len : l.len + length (row_octets f.octets left) ≡ length (row_octets f.octets all);
      ahead : AllByRecursion f.fits all → AllByRecursion f.fits left;
      all : AllByRecursion f.fits left → AllByRecursion f.fits all;
    }

abbrev pub decreases-values : goal.decreases-values
decreases-values g l = length l.left

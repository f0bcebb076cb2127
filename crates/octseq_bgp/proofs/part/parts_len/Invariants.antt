-- The octets of some parts were counted, and the others are ahead.
use Rattle.std.proofs.Common.{◌≡◌, ◌+◌, ◌≤◌, length, map}
use Rattle.std.specs.List.{AllByRecursion}
use Rattle.octseq_format.specs.Row.{row_octets}
use Rattle.octseq_bgp.proofs.part.parts_len.Given as goal

abbrev pub invariant-parts : goal.invariant-parts
invariant-parts g l =
    let p = g.P.Part in
    let left = map p.says l.left in
    let all = map p.says l.fn.parts in
    record {
      len : l.len + length (row_octets (p.octets l.wide) left) ≡ length (row_octets (p.octets l.wide) all);
      few : l.len ≤ 65535;
      ahead : AllByRecursion (p.fits l.wide) all → AllByRecursion (p.fits l.wide) left;
      all : AllByRecursion (p.fits l.wide) left → AllByRecursion (p.fits l.wide) all;
    }

abbrev pub decreases-parts : goal.decreases-parts
decreases-parts g l = length l.left

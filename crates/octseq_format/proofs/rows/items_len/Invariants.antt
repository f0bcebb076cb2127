-- The octets of some items were counted, and the others are ahead.
use Rattle.std.proofs.Common.{◌≡◌, ◌+◌, length, map}
use Rattle.std.specs.List.{AllByRecursion}
use Rattle.octseq_format.specs.Row.{row_octets}
use Rattle.octseq_format.specs.Walk.{items_left}
use Rattle.octseq_format.proofs.rows.items_len.Given as goal

abbrev pub invariant-loop-item : goal.invariant-loop-item
invariant-loop-item g l =
    let f = g.F.Format in
    record {
      len : l.len + length (row_octets f.octets (map f.says (items_left l.item-iterator)))
          ≡ length (row_octets f.octets (map f.says (items_left l.fn.walk)));
      ahead : AllByRecursion f.fits (map f.says (items_left l.fn.walk))
          → AllByRecursion f.fits (map f.says (items_left l.item-iterator));
      all : AllByRecursion f.fits (map f.says (items_left l.item-iterator))
          → AllByRecursion f.fits (map f.says (items_left l.fn.walk));
    }

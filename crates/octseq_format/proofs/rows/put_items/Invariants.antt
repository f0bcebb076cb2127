-- The octets of some items were appended, and the others fit.
use Rattle.std.proofs.Common.{◌≡◌, ◌++◌, ℕ, List, map}
use Rattle.std.specs.List.{AllByRecursion}
use Rattle.octseq_format.specs.Laws.{HasOctets}
use Rattle.octseq_format.specs.Row.{row_octets}
use Rattle.octseq_format.specs.Walk.{items_left}
use Rattle.octseq_format.proofs.rows.put_items.Given as goal

abbrev pub invariant-loop-item : goal.invariant-loop-item
invariant-loop-item g l =
    let f = g.F.Format in
    let content = g.B.AsOctets.content in
    record {
      done : List ℕ;
      appended : content l.builder ≡ content l.fn.builder ++ done;
      split : row_octets f.octets (map f.says (items_left l.fn.walk))
          ≡ done ++ row_octets f.octets (map f.says (items_left l.item-iterator));
      fit : HasOctets (row_octets f.octets) (AllByRecursion f.fits) (map f.says (items_left l.item-iterator));
      borrows : g.B.AsOctets.borrows l.builder ≡ g.B.AsOctets.borrows l.fn.builder;
    }

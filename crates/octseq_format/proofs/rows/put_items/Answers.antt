use Rattle.std.proofs.Common.{[], map, refl, sym, ap, subst, append-nil}
use Rattle.std.specs.List.{AllByRecursion}
use Rattle.octseq_format.specs.Laws.{HasOctets}
use Rattle.octseq_format.specs.Row.{row_octets}
use Rattle.octseq_format.specs.Walk.{items_left}
use Rattle.octseq_format.proofs.rows.put_items.Goals as goal

pub loop-item-init : goal.loop-item-init
loop-item-init g c =
    let f = g.F.Format in
    let all = sym c.into_iter-item-iterator.ensures.into_iter_gives in
    record {
      done = [];
      appended = sym (append-nil _);
      split = ap (λ walk. row_octets f.octets (map f.says (items_left walk))) all;
      fit = subst (λ walk. HasOctets (row_octets f.octets) (AllByRecursion f.fits) (map f.says (items_left walk))) all
          c.requires.fit;
      borrows = refl;
    }

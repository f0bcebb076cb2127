use Rattle.std.proofs.Common.{[], ◌∷◌, ap, inr, refl, subst}
use Rattle.octseq.specs.Parser.{window}
use Rattle.octseq_c.proofs.Puts.{copies}
use Rattle.octseq_c.specs.Fields.{range_row}
use Rattle.octseq_c.specs.Puts.{Copies}
use Rattle.octseq_c.proofs.fields.put_fields.Goals as goal

pub returns-in-None : goal.returns-in-None
returns-in-None g c =
    let rows = range_row 4 (window c.args.inside) ∷ [] in
    let copied = copies (ap (λ row. row ∷ []) c.range_row.ensures) c.put.ensures.count c.put.ensures.ok
    c.put.ensures.no_room in (
      rows,
      inr (c.in-None.ensures.none refl, refl),
      subst (λ old. Copies rows c.put.result old c.put.new.out c.put.new.count) c.in-None.ensures.kept copied,
    )

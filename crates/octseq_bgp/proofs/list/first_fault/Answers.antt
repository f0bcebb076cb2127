use Rattle.std.proofs.Common.{◌++◌, [], ◌∷◌}
use Rattle.octseq.specs.Parser.{window}
use Rattle.octseq_format.proofs.RowSteps.{row_more}
use Rattle.octseq_bgp.proofs.list.first_fault.Goals as goal

pub items-preserved : goal.items-preserved
items-preserved g c =
    let f = g.F.Format in
    let row = c.items.invariant.0 in
    let one = f.found c.in-Ok._item in (
      row ++ one ∷ [],
      row_more f.is_at (window c.args.parser) (window c.items.ahead) (window c.parse.new.parser) row one
          c.items.invariant.1 c.in-Ok.ensures.value,
    )

use Rattle.std.proofs.Common.{◌*◌, ◌/◌, ◌≤◌, subst, arith}
use Rattle.octseq.specs.Parser.{window}
use Rattle.octseq.specs.Window.{left}
use Rattle.octseq_format.specs.Fixed.{IsFixed, one_fixed}
use Rattle.octseq_format.specs.Row.{Row}
use Rattle.octseq_format.proofs.RowSteps.{held_as}
use Rattle.octseq_bgp.proofs.Chunks.{chunks, divided, fills_divided}
use Rattle.octseq_bgp.proofs.item.Items.parse.Goals as goal

pub returns-then-octets-width-ne0-clause-malformed : goal.returns-then-octets-width-ne0-clause-malformed
returns-then-octets-width-ne0-clause-malformed g c = λ _ row fills.
    let t = g.T.Item in
    c.if-octets-width-ne0.true (fills_divided t.width c.width-width.result c.remaining-octets.result t.reads
    (window c.args.parser) row c.width-width.ensures c.remaining-octets.ensures.left fills)

pub invariant_of-result : goal.invariant_of-result
invariant_of-result g c =
    let t = g.T.Item in
    let w = window c.args.parser in
    let n = c.remaining-octets.result / c.width-width.result in
    let all = c.remaining-octets.ensures.left in
    let whole = divided t.width c.width-width.result c.remaining-octets.result c.width-width.ensures g.met.T.Item.wide
    in
    let fits : t.width * n ≤ left w = omega (arith, whole, all) in
    let row = chunks t.width t.reads n w fits in
    record { ahead = (row.0, ∣ (row.1, row.2) ∣₁) }

pub returns-clause-items : goal.returns-clause-items
returns-clause-items g c =
    let t = g.T.Item in
    let w = window c.args.parser in
    let n = c.remaining-octets.result / c.width-width.result in
    let all = c.remaining-octets.ensures.left in
    let whole = divided t.width c.width-width.result c.remaining-octets.result c.width-width.ensures g.met.T.Item.wide
    in
    let none = c.if-octets-width-ne0.false in
    let fits : t.width * n ≤ left w = omega (arith, whole, all) in
    let row = chunks t.width t.reads n w fits in
    let filled = row.3 in
    let held = held_as t.found_code (IsFixed t.width t.reads) (one_fixed t.width t.reads) w row.1 n row.0
    c.result-1.given.0 row.2 in (
      row.1,
      (
        subst (λ items. Row (IsFixed t.width t.reads) w items row.1) held row.2.1,
        omega (arith, filled, whole, none, all),
      ),
    )

use Rattle.std.proofs.Common.{length, refl, ap, arith}
use Rattle.octseq.specs.Parser.{window}
use Rattle.octseq_bgp.specs.Items.{items_left}
use Rattle.octseq_bgp.proofs.Chunks.{one_filling}
use Rattle.octseq_bgp.proofs.attribute.value.parse_some.Goals as goal

pub returns-in_err-items-clause-malformed : goal.returns-in_err-items-clause-malformed
returns-in_err-items-clause-malformed g c = λ _ row is. c.in_err-items.ensures.malformed refl row is.0

pub returns-then-len-eq0-clause-malformed : goal.returns-then-len-eq0-clause-malformed
returns-then-len-eq0-clause-malformed g c = λ _ row is.
    let t = g.T.Item in
    let items = c.in_ok-items in
    let same = ap length (one_filling t.width t.reads g.met.T.Item.wide (window c.args.parser) row
    (items_left items.items)
    is.0 items.ensures.items) in
    let none = c.if-len-eq0.true in
    let some = is.1 in
    let many = c.len.ensures in
    omega (arith, same, none, some, many)

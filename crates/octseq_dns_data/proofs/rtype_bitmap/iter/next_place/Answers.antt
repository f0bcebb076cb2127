use Rattle.std.proofs.Common.{sym, ◌∙◌, arith}
use Rattle.octseq_dns_data.proofs.RtypeBitmaps.{place_listed, place_not}
use Rattle.octseq_dns_data.proofs.rtype_bitmap.iter.next_place.Goals as goal

pub returns-then-is_listed-clause-first : goal.returns-then-is_listed-clause-first
returns-then-is_listed-clause-first c =
    let listed = sym c.is_listed.ensures ∙ c.if-is_listed.true in
    c.loop-next.invariant ∙ place_listed c.args.bitmap.now c.loop-next.next (omega arith) listed

pub loop-next-preserved : goal.loop-next-preserved
loop-next-preserved c =
    let listed = sym c.is_listed.ensures ∙ c.if-is_listed.false in
    c.loop-next.invariant ∙ place_not c.args.bitmap.now c.loop-next.next (omega arith) listed

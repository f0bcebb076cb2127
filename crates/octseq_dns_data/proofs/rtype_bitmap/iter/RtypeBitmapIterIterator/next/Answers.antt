use Rattle.std.proofs.Common.{refl, sym, ◌∙◌, subst}
use Rattle.std.specs.Iterator.{YieldsFirstBy}
use Rattle.octseq_dns_data.specs.RtypeBitmapOf.{block_of, rtypes_left}
use Rattle.octseq_dns_data.proofs.RtypeBitmaps.{bitmap_after, block_left, no_block, nothing_left}
use Rattle.octseq_dns_data.proofs.rtype_bitmap.iter.RtypeBitmapIterIterator.next.Goals as goal

pub returns-in_err-block-clause-steps : goal.returns-in_err-block-clause-steps
returns-in_err-block-clause-steps c =
    let self = c.loop-place.self in
    let empty = no_block 0 self.rest.now self.ahead (c.in_err-block.ensures.none refl) in
    let none = nothing_left self.number self.bitmap.now self.rest.now self.place c.in_default.ensures.first empty in
    subst (λ given. YieldsFirstBy (λ rtype. rtype) rtypes_left c.args.self.now given self) (sym c.from_residual.ensures)
    (c.loop-place.invariant ∙ none, none)

pub invariant_of-self-in-loop-place : goal.invariant_of-self-in-loop-place
invariant_of-self-in-loop-place c =
    let self = c.loop-place.self in
    record {
      few = c.in_ok-block.ensures.form.few;
      ahead = bitmap_after self.rest.now c.in_ok-block.rest.now (block_of c.in_ok-block.block)
          c.in_ok-block.ensures.found self.ahead;
    }

pub loop-place-preserved : goal.loop-place-preserved
loop-place-preserved c =
    let self = c.loop-place.self in
    c.loop-place.invariant ∙ block_left self.number self.bitmap.now self.rest.now c.in_ok-block.rest.now self.place
    (block_of c.in_ok-block.block) c.in_default.ensures.first c.in_ok-block.ensures.found
    (bitmap_after self.rest.now c.in_ok-block.rest.now (block_of c.in_ok-block.block) c.in_ok-block.ensures.found
    self.ahead)

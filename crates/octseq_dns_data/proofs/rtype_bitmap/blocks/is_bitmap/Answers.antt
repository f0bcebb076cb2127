use Rattle.std.proofs.Common.{◌≡◌, ◌+◌, [], ◌∷◌, length, refl, sym, ap, ◌∙◌, arith}
use Rattle.std.proofs.Math.Bool.{true≢false}
use Rattle.std.proofs.lemmas.Bool.Decides.{Decides-eqb}
use Rattle.octseq_dns_data.specs.RtypeBitmapOf.{block_of}
use Rattle.octseq_dns_data.proofs.RtypeBitmaps.{after_block, block_length, block_then, blocks_are, blocks_then}
use Rattle.octseq_dns_data.proofs.RtypeBitmaps.{no_block, no_blocks}
use Rattle.octseq_dns_data.proofs.rtype_bitmap.blocks.is_bitmap.Goals as goal

pub returns-then-from-least-clause-no : goal.returns-then-from-least-clause-no
returns-then-from-least-clause-no c = λ _ bitmap.
    let block = block_of c.in-Some.block in
    let split = after_block c.loop-block.least (block.number + 1) c.loop-block.rest.now c.in-Some.more.now block
    c.in-Some.ensures.found refl (c.loop-block.invariant.only bitmap) in
    let number = c.from.ensures in
    omega (arith, split.0, number)

pub loop-block-preserved : goal.loop-block-preserved
loop-block-preserved c =
    let block = block_of c.in-Some.block in
    let found = c.in-Some.ensures.found in
    let form = c.in-Some.ensures.form in
    let rest = c.loop-block.rest.now in
    let more = c.in-Some.more.now in
    let least = c.loop-block.least in
    let few = block_length rest more block found form in
    let number = c.from-least.ensures in
    let next : c.from-least.result + 1 ≡ block.number + 1 = ap (λ n. n + 1) number in
    record {
      whole = λ has. c.loop-block.invariant.whole
          (block_then least (c.from-least.result + 1) rest more block found form (omega arith) next has);
      only = λ bitmap. (after_block least (c.from-least.result + 1) rest more block found next
          (c.loop-block.invariant.only bitmap)).1;
      turns = omega (arith, few);
      counted = omega arith;
      least = λ blocks are.
          let so_far = c.loop-block.invariant.least (block ∷ blocks)
          (blocks_then least (c.from-least.result + 1) rest more block blocks found form (omega arith) next are) in
          let one = c.tick.ensures in
          omega (arith, so_far, one);
    }

pub returns-clause-least : goal.returns-clause-least
returns-clause-least c = λ empty.
    let long = (Decides-eqb (length c.loop-block.rest.now) 0).0 (sym c.is_empty.ensures ∙ empty) in
    let so_far = c.loop-block.invariant.least [] (no_blocks c.loop-block.least c.loop-block.rest.now long) in
    omega (arith, so_far)

pub loop-block-init : goal.loop-block-init
loop-block-init c = record {
  whole = λ has. has;
  only = λ bitmap. bitmap;
  turns = omega arith;
  counted = omega arith;
  least = λ blocks are. let same = ap length (blocks_are c.args.octets.now blocks are.0) in omega (arith, same);
}

pub returns-clause-no : goal.returns-clause-no
returns-clause-no c = λ no bitmap.
    let none = no_block c.loop-block.least c.loop-block.rest.now (c.loop-block.invariant.only bitmap)
    (c.in_default.ensures.none refl) in
    true≢false (sym ((Decides-eqb (length c.loop-block.rest.now) 0).1 (ap length none)) ∙ sym c.is_empty.ensures ∙ no)

use Rattle.std.proofs.Common.{◌≡◌, ap, ◌∙◌, arith}
use Rattle.std.specs.List.{flat_map, range_with_len}
use Rattle.octseq_dns_data.specs.RtypeBitmap.{block_octets}
use Rattle.octseq_dns_data.specs.RtypeBitmapMade.{window_blocks}
use Rattle.octseq_dns_data.proofs.RtypeBitmapsMade.{blocks_pushed, made_bitmap, made_members}
use Rattle.octseq_dns_data.proofs.rtype_bitmap.build.octets_of.Goals as goal

pub loop-number-preserved : goal.loop-number-preserved
loop-number-preserved c =
    let rtypes = c.args.rtypes.now in
    let number = c.loop-number.number in
    let most = c.append_block.ensures.most in
    record {
      octets = blocks_pushed rtypes number c.loop-number.octets.content c.append_block.new.octets.content
          c.append_block.ensures.octets c.loop-number.invariant.octets;
      most = omega (arith, most, c.loop-number.invariant.most);
    }

pub returns-clause-octets : goal.returns-clause-octets
returns-clause-octets c =
    let rtypes = c.args.rtypes.now in
    let all : c.loop-number.number ≡ 256 = omega arith in
    c.loop-number.invariant.octets
    ∙ ap (λ n. flat_map block_octets (flat_map (window_blocks rtypes) (range_with_len 0 n))) all

pub returns-clause-bitmap : goal.returns-clause-bitmap
returns-clause-bitmap c = made_bitmap c.args.rtypes.now

pub returns-clause-types : goal.returns-clause-types
returns-clause-types c = made_members c.args.rtypes.now

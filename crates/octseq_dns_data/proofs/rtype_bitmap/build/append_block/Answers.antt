use Rattle.std.proofs.Common.{◌++◌, ap, ◌∙◌, arith}
use Rattle.octseq_dns_data.proofs.RtypeBitmapsMade.{block_made, part_length, part_more}
use Rattle.octseq_dns_data.proofs.rtype_bitmap.build.append_block.Goals as goal

pub push-requires-in-loop-place : goal.push-requires-in-loop-place
push-requires-in-loop-place c =
    let long = part_length c.args.octets.now.content c.loop-place.octets.content c.args.rtypes.now c.args.number
    c.bitmap_size-size.result c.loop-place.place c.loop-place.invariant in
    omega (arith, long)

pub loop-place-preserved : goal.loop-place-preserved
loop-place-preserved c =
    part_more c.args.octets.now.content c.loop-place.octets.content c.push-in-loop-place.new.octets.content
    c.args.rtypes.now c.args.number c.bitmap_size-size.result c.loop-place.place c.octet_of-octet.result
    c.push-in-loop-place.ensures c.loop-place.invariant c.octet_of-octet.ensures

pub returns-clause-octets : goal.returns-clause-octets
returns-clause-octets c =
    c.loop-place.invariant ∙ ap (λ block. c.args.octets.now.content ++ block)
    (block_made c.args.rtypes.now c.args.number c.bitmap_size-size.result c.loop-place.place
    c.bitmap_size-size.ensures.size (omega arith) (omega arith))

pub returns-clause-most : goal.returns-clause-most
returns-clause-most c =
    let long = part_length c.args.octets.now.content c.loop-place.octets.content c.args.rtypes.now c.args.number
    c.bitmap_size-size.result c.loop-place.place c.loop-place.invariant in
    omega (arith, long)

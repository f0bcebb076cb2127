use Rattle.std.proofs.Common.{arith}
use Rattle.octseq_dns_data.specs.RtypeBitmapMade.{is_among}
use Rattle.octseq_dns_data.proofs.RtypeBitmapsMade.{bit_few, bits_few}
use Rattle.octseq_dns_data.proofs.rtype_bitmap.build.octet_of.Goals as goal

pub overflow_mul-octet : goal.overflow_mul-octet
overflow_mul-octet c =
    let is = c.loop-count.invariant in
    let few = bits_few (is_among c.args.rtypes.now) c.args.rtype c.loop-count.count (omega arith) in
    omega (arith, is, few)

pub overflow_add-octet : goal.overflow_add-octet
overflow_add-octet c =
    let is = c.loop-count.invariant in
    let few = bits_few (is_among c.args.rtypes.now) c.args.rtype c.loop-count.count (omega arith) in
    let bit = c.from.ensures in
    let one = bit_few c.is_among.result in
    omega (arith, is, few, bit, one)

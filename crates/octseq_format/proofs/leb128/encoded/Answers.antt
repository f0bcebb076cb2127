use Rattle.std.proofs.Common.{◌∙◌, ◌<◌, arith, length-set}
use Rattle.octseq_format.proofs.Lebs.{room_more, small_more, made_more, made_last}
use Rattle.octseq_format.proofs.leb128.encoded.Goals as goal

pub loop-left-preserved : goal.loop-left-preserved
loop-left-preserved c =
    let so_far = c.loop-left.invariant in
    let large = c.loop-left-test.true in
    let room : c.loop-left.len < 9 = room_more c.loop-left.len c.loop-left.left so_far.room large so_far.small in
    record {
      many = length-set c.loop-left.octets c.loop-left.len _ ∙ so_far.many;
      room = omega (arith, room);
      small = small_more c.loop-left.len c.loop-left.left room so_far.small;
      made = made_more c.loop-left.octets _ c.loop-left.len c.loop-left.left so_far.many room large so_far.made;
    }

pub returns-clause-octets : goal.returns-clause-octets
returns-clause-octets c =
    let all = c.loop-left.invariant in
    made_last c.loop-left.octets _ c.loop-left.len c.loop-left.left all.many all.room c.loop-left-test.false all.made

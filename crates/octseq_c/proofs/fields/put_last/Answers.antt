use Rattle.std.proofs.Common.{arith}
use Rattle.std.proofs.lemmas.List.{take_more_set}
use Rattle.octseq_c.proofs.Puts.{copies}
use Rattle.octseq_c.proofs.fields.put_last.Goals as goal

pub returns : goal.returns
returns c =
    copies (take_more_set c.args.front.now c.args.len c.args.last (omega arith)) c.put.ensures.count c.put.ensures.ok
    c.put.ensures.no_room

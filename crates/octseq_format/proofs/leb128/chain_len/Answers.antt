use Rattle.std.proofs.Common.{arith}
use Rattle.octseq_format.proofs.Lebs.{not_chained}
use Rattle.octseq_format.proofs.leb128.chain_len.Goals as goal

pub returns-clause-none : goal.returns-clause-none
returns-clause-none g c = λ _ k few within chained.
    let least = c.min-offset-end.ensures in
    let all = c.loop-offset-test.false in
    let offset = c.loop-offset.offset in
    not_chained c.args.octets.now offset k c.loop-offset.invariant (omega (arith, least, all, few, within)) few chained

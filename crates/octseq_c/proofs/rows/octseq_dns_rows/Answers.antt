use Rattle.std.proofs.Common.{arith}
use Rattle.octseq_c.proofs.OneTexts.{are_rows, one_rows_of}
use Rattle.octseq_c.proofs.Puts.{puts_ok, puts_no_room, puts_none}
use Rattle.octseq_c.proofs.rows.octseq_dns_rows.Goals as goal

pub returns-then-count-out-clause-puts : goal.returns-then-count-out-clause-puts
returns-then-count-out-clause-puts c =
    puts_no_room (one_rows_of c.args.octets.now) _ (are_rows c.in-Ok.ensures.message)
    (omega (arith, c.row_count.ensures, c.if-count-out.true)) c.row_count.ensures

pub returns-else-count-out-clause-puts : goal.returns-else-count-out-clause-puts
returns-else-count-out-clause-puts c =
    puts_ok (one_rows_of c.args.octets.now) _ (are_rows c.in-Ok.ensures.message)
    (omega (arith, c.row_count.ensures, c.if-count-out.false)) c.row_count.ensures c.fill_rows.ensures

pub returns-in-Err-clause-puts : goal.returns-in-Err-clause-puts
returns-in-Err-clause-puts c = puts_none 2 (omega arith) (one_rows_of c.args.octets.now)

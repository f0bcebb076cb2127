use Rattle.std.proofs.Common.{arith}
use Rattle.octseq_c.proofs.MrtRows.{are_rows, one_mrt_rows}
use Rattle.octseq_c.proofs.Puts.{puts_ok, puts_no_room, puts_none}
use Rattle.octseq_c.proofs.mrt.rows.put_rows.Goals as goal

pub returns-then-count-out-clause-puts : goal.returns-then-count-out-clause-puts
returns-then-count-out-clause-puts g c =
    puts_no_room (one_mrt_rows (g.R.AsOctets.content c.args.octets)) _ (are_rows c.in-Ok.ensures.value)
    (omega (arith, c.row_count.ensures, c.if-count-out.true)) c.row_count.ensures

pub returns-else-count-out-clause-puts : goal.returns-else-count-out-clause-puts
returns-else-count-out-clause-puts g c =
    puts_ok (one_mrt_rows (g.R.AsOctets.content c.args.octets)) _ (are_rows c.in-Ok.ensures.value)
    (omega (arith, c.row_count.ensures, c.if-count-out.false)) c.row_count.ensures c.fill_rows.ensures

pub returns-in-Err-clause-puts : goal.returns-in-Err-clause-puts
returns-in-Err-clause-puts g c = puts_none 2 (omega arith) (one_mrt_rows (g.R.AsOctets.content c.args.octets))

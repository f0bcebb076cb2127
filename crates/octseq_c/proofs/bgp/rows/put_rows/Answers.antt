use Rattle.std.proofs.Common.{arith, ap, ◌∙◌, length}
use Rattle.octseq_bgp.specs.Parsed.{message_of}
use Rattle.octseq_c.specs.BgpSession.{session_of}
use Rattle.octseq_c.proofs.BgpRoom.{message_few}
use Rattle.octseq_c.proofs.BgpRows.{are_rows, one_bgp_rows, one_message_rows}
use Rattle.octseq_c.proofs.Puts.{puts_ok, puts_no_room, puts_none}
use Rattle.octseq_c.proofs.bgp.rows.put_rows.Goals as goal

pub row_count-requires : goal.row_count-requires
row_count-requires g c =
    let few = message_few (session_of c.args.session) (g.R.AsOctets.content c.args.octets) (message_of c.in-Ok.message)
    c.in-Ok.ensures.message c.in-Ok.ensures.turns in
    omega (arith, few, c.requires.few)

pub returns-then-count-out-clause-puts : goal.returns-then-count-out-clause-puts
returns-then-count-out-clause-puts g c =
    let (rows, are, n) = c.row_count.ensures in
    puts_no_room (one_bgp_rows (session_of c.args.session) (g.R.AsOctets.content c.args.octets)) rows
    (are_rows c.in-Ok.ensures.message are) (omega (arith, n, c.if-count-out.true)) n

pub returns-else-count-out-clause-puts : goal.returns-else-count-out-clause-puts
returns-else-count-out-clause-puts g c =
    let (counted, are, n) = c.row_count.ensures in
    let (rows, same, fills) = c.fill_message.ensures in
    let one = ap length (one_message_rows (message_of c.in-Ok.message) counted rows are same) in
    puts_ok (one_bgp_rows (session_of c.args.session) (g.R.AsOctets.content c.args.octets)) rows
    (are_rows c.in-Ok.ensures.message same) (omega (arith, n, one, c.if-count-out.false)) (n ∙ one) fills

pub returns-in-Err-clause-puts : goal.returns-in-Err-clause-puts
returns-in-Err-clause-puts g c =
    puts_none 2 (omega arith) (one_bgp_rows (session_of c.args.session) (g.R.AsOctets.content c.args.octets))

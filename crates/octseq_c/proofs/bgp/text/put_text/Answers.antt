use Rattle.std.proofs.Common.{arith}
use Rattle.octseq_bgp.proofs.Texts.{one_message_text}
use Rattle.octseq_bgp.specs.Parsed.{message_of}
use Rattle.octseq_c.proofs.BgpRows.{one_bgp_text, text_of_it}
use Rattle.octseq_c.proofs.Puts.{puts_as, puts_none}
use Rattle.octseq_c.specs.BgpSession.{session_of}
use Rattle.octseq_c.proofs.bgp.text.put_text.Goals as goal

pub returns-in-Ok-clause-puts : goal.returns-in-Ok-clause-puts
returns-in-Ok-clause-puts g c =
    puts_as (λ text is. record { message = message_of c.in-Ok.message; is = c.in-Ok.ensures.message; text_is = is })
    (one_bgp_text (session_of c.args.session) (g.R.AsOctets.content c.args.octets)) c.put_lines.ensures.puts

pub returns-in-Ok-clause-utf8 : goal.returns-in-Ok-clause-utf8
returns-in-Ok-clause-utf8 g c = λ ok text is.
    c.put_lines.ensures.utf8 ok text (text_of_it (message_of c.in-Ok.message) c.in-Ok.ensures.message is)

pub returns-in-Err-clause-puts : goal.returns-in-Err-clause-puts
returns-in-Err-clause-puts g c = puts_none 2 (omega arith)
    (one_bgp_text (session_of c.args.session) (g.R.AsOctets.content c.args.octets))

pub put_lines-requires : goal.put_lines-requires
put_lines-requires g c = record { one = one_message_text (message_of c.in-Ok.message) }

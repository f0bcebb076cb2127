use Rattle.std.proofs.Common.{arith}
use Rattle.octseq_dns_message.specs.Parsed.{header_of, questions_of, answers_of, authorities_of, additionals_of}
use Rattle.octseq_dns_message.proofs.Messages.{said_once}
use Rattle.octseq_c.proofs.OneTexts.{moved_text, one_text_of}
use Rattle.octseq_c.proofs.Puts.{puts_as, puts_none}
use Rattle.octseq_c.proofs.text.octseq_dns_message_text.Goals as goal

pub returns-in-Ok-clause-puts : goal.returns-in-Ok-clause-puts
returns-in-Ok-clause-puts c =
    let message = c.in-Ok.message in
    puts_as (λ text is. record {
      header = header_of message;
      questions = questions_of message;
      answers = answers_of message;
      authorities = authorities_of message;
      additionals = additionals_of message;
      message = c.in-Ok.ensures.message;
      text_is = is;
    }) (one_text_of c.args.octets.now) c.put_text.ensures.puts

pub returns-in-Ok-clause-utf8 : goal.returns-in-Ok-clause-utf8
returns-in-Ok-clause-utf8 c = λ ok text is.
    let same = said_once c.args.octets.now _ _ _ _ _ _ _ _ _ _ is.message c.in-Ok.ensures.message in
    c.put_text.ensures.utf8 ok text (moved_text same.0 same.1 same.2 same.3 same.4 is.text_is)

pub returns-in-Err-clause-puts : goal.returns-in-Err-clause-puts
returns-in-Err-clause-puts c = puts_none 2 (omega arith) (one_text_of c.args.octets.now)

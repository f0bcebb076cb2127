use Rattle.octseq_dns_message.specs.Parsed.{header_of, questions_of, answers_of, authorities_of, additionals_of}
use Rattle.octseq_dns_message.proofs.MessageTexts.{one_message_text}
use Rattle.octseq_dns_message.proofs.message.Message.append_text.Goals as goal

pub append_lines-requires : goal.append_lines-requires
append_lines-requires g c =
    let it = c.args.self.now in
    one_message_text (header_of it) (questions_of it) (answers_of it) (authorities_of it) (additionals_of it)

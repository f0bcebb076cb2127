use Rattle.octseq_bgp.specs.Parsed.{message_of}
use Rattle.octseq_bgp.proofs.Texts.{one_message_text}
use Rattle.octseq_bgp.proofs.message.Message.append_text.Goals as goal

pub append_lines-requires : goal.append_lines-requires
append_lines-requires g c = one_message_text (message_of c.args.self.now)

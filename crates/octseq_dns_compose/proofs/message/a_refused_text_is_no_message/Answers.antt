use Rattle.octseq_dns_compose.specs.MessageText.{IsAnyText}
use Rattle.octseq_dns_compose.proofs.LineFaults.{no_lines}
use Rattle.octseq_dns_compose.proofs.message.a_refused_text_is_no_message.Goals as goal

pub returns : goal.returns
returns c = λ text first number offset m fault is.
    no_lines IsAnyText text first number offset fault is.lines is.lines_are (is.header, is.entries, is.say)

use Rattle.octseq_dns_compose.proofs.ShownMessages.{message_shown, rows_of}
use Rattle.octseq_dns_compose.proofs.laws.messages_are_read_as_shown.Goals as goal

pub returns : goal.returns
returns c = λ octets text header questions answers authorities additionals each is shown.
    message_shown text header questions answers authorities additionals
    (rows_of octets header questions answers authorities additionals each is) shown

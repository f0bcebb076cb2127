use Rattle.octseq_dns_compose.proofs.ComposedMessages.{message_again}
use Rattle.octseq_dns_compose.proofs.ShownMessages.{rows_of}
use Rattle.octseq_dns_compose.proofs.laws.a_shown_message_is_composed_again.Goals as goal

pub returns : goal.returns
returns c = λ octets text header questions answers authorities additionals m each is shown.
    message_again text header questions answers authorities additionals m
    (rows_of octets header questions answers authorities additionals each is) shown

-- Questions were read, and written.
use Rattle.std.proofs.Common.{◌≡◌, length}
use Rattle.octseq_dns.specs.Writes.{more_questions}
use Rattle.octseq_dns_compress.specs.Composed.{message_limit}
use Rattle.octseq_dns_compose.specs.MessageText.{IsQuestionLine}
use Rattle.octseq_dns_compose.specs.Progress.{HasPushed, IsAsked}
use Rattle.octseq_dns_compose.proofs.message.push_questions.Given as goal

abbrev pub invariant-lines : goal.invariant-lines
invariant-lines g l = HasPushed IsQuestionLine IsAsked g.T.Compressor.most (message_limit g.B.AsOctets.limit)
    more_questions l.fn.lines.ahead.now l.lines.ahead.now l.fn.lines.number l.lines.number l.fn.message l.message
    × (g.B.AsOctets.borrows l.message.octets ≡ g.B.AsOctets.borrows l.fn.message.octets)

abbrev pub decreases-lines : goal.decreases-lines
decreases-lines g l = length l.lines.ahead.now

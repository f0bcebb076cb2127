-- What lines say was read, and records were written for it.
use Rattle.std.proofs.Common.{◌≡◌, length}
use Rattle.octseq_dns_compress.specs.Composed.{message_limit}
use Rattle.octseq_dns_compose.specs.MessageText.{IsRecordLine}
use Rattle.octseq_dns_compose.specs.Progress.{HasPushed, IsSmallRecord}
use Rattle.octseq_dns_compose.proofs.message.push_records.Given as goal

abbrev pub invariant-lines : goal.invariant-lines
invariant-lines g l = HasPushed (IsRecordLine l.section) (IsSmallRecord g.D.AsOctets.limit) g.T.Compressor.most
    (message_limit g.B.AsOctets.limit) g.S.RecordSection.more l.fn.lines.ahead.now l.lines.ahead.now
    l.fn.lines.number l.lines.number l.fn.message l.message
    × (g.B.AsOctets.borrows l.message.octets ≡ g.B.AsOctets.borrows l.fn.message.octets)

abbrev pub decreases-lines : goal.decreases-lines
decreases-lines g l = length l.lines.ahead.now

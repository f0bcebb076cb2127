use Rattle.std.proofs.Common.{rules}
use Rattle.octseq_dns_compose.specs.RecordText.{IsRecordTypeWord}
use Rattle.octseq_dns_compose.proofs.Faults.{takes_none, takes_other}
use Rattle.octseq_dns_compose.proofs.head.take_rtype.Goals as goal

pub returns-in_default-clause-taken : goal.returns-in_default-clause-taken
returns-in_default-clause-taken c = takes_none IsRecordTypeWord (c.in_default.ensures.none (search rules))

pub returns-in_default-scan_rtype-clause-taken : goal.returns-in_default-scan_rtype-clause-taken
returns-in_default-scan_rtype-clause-taken c =
    takes_other IsRecordTypeWord c.in-Some.ensures.some (c.in_default-scan_rtype.ensures.none (search rules))

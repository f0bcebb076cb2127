use Rattle.std.proofs.Common.{rules}
use Rattle.octseq_dns_compose.specs.RecordText.{IsClassWord}
use Rattle.octseq_dns_compose.proofs.Faults.{takes_none, takes_other}
use Rattle.octseq_dns_compose.proofs.head.take_class.Goals as goal

pub returns-in_default-clause-taken : goal.returns-in_default-clause-taken
returns-in_default-clause-taken c = takes_none IsClassWord (c.in_default.ensures.none (search rules))

pub returns-in_default-scan_class-clause-taken : goal.returns-in_default-scan_class-clause-taken
returns-in_default-scan_class-clause-taken c =
    takes_other IsClassWord c.in-Some.ensures.some (c.in_default-scan_class.ensures.none (search rules))

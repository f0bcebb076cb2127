use Rattle.std.proofs.Common.{rules}
use Rattle.octseq_dns_compose.specs.RecordText.{IsOwnerWord}
use Rattle.octseq_dns_compose.proofs.Faults.{only_word}
use Rattle.octseq_dns_compose.proofs.head.take_owner.Goals as goal

pub returns-in_default-clause-none : goal.returns-in_default-clause-none
returns-in_default-clause-none g c = λ _ word rest labels taken.
    absurd (c.in_default.ensures.none (search rules) word rest taken)

pub returns-in_default-scan_name-clause-none : goal.returns-in_default-scan_name-clause-none
returns-in_default-scan_name-clause-none g c = λ _ word rest labels taken.
    only_word (IsOwnerWord _ labels) _ _ _ c.in-Some.ensures.some
    (c.in_default-scan_name.ensures.none (search rules) labels) word rest taken

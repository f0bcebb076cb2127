use Rattle.std.proofs.Common.{refl, subst}
use Rattle.octseq_dns_data.specs.Mnemonic.{ReadsRtype}
use Rattle.octseq_dns_scan.proofs.Taken.{word_once}
use Rattle.octseq_dns_text.proofs.Outcomes.{if_none}
use Rattle.octseq_dns_text.proofs.types.next_type.Goals as goal

pub returns-in_default-clause-none : goal.returns-in_default-clause-none
returns-in_default-clause-none c = λ _ word rest rtype taken reads. c.in_default.ensures.none refl word rest taken

pub returns-clause-none : goal.returns-clause-none
returns-clause-none c = λ none word rest rtype taken reads.
    let same = word_once word c.in-Some.word.octets.now _ rest _ taken c.in-Some.ensures.some in
    if_none c.scan_type.result _ c.scan_type.ensures.none none rtype (subst (λ w. ReadsRtype w rtype) same.0 reads)

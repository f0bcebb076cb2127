use Rattle.octseq_dns_scan.specs.Spelled.{SpellsString}
use Rattle.octseq_dns_scan.proofs.Spellings.{inside_spelled}
use Rattle.octseq_dns_scan.proofs.string.spelled_part.Goals as goal

pub returns-in-Some-clause-to : goal.returns-in-Some-clause-to
returns-in-Some-clause-to c = λ octets spells. SpellsString.quoted c.in-Some.inside.now c.in-Some.ensures.some spells

pub returns-in-Some-clause-from : goal.returns-in-Some-clause-from
returns-in-Some-clause-from c =
    inside_spelled c.args.word.now c.in-Some.inside.now c.in-Some.ensures.some

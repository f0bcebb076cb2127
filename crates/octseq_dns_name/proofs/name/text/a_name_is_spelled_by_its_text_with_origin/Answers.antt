use Rattle.std.proofs.Common.{inl}
use Rattle.octseq_dns_name.specs.Text.{name_text}
use Rattle.octseq_dns_name.proofs.Readings.{name_once_with_origin}
use Rattle.octseq_dns_name.proofs.Spellings.{name_spelled}
use Rattle.octseq_dns_name.proofs.name.text.a_name_is_spelled_by_its_text_with_origin.Goals as goal

pub returns-clause-spells : goal.returns-clause-spells
returns-clause-spells c = λ origin labels octets. inl (name_spelled labels octets)

pub returns-clause-one : goal.returns-clause-one
returns-clause-one c = λ origin labels others octets are short others_are others_short spells.
    name_once_with_origin origin others labels (name_text labels) others_are others_short are short spells
    (inl (name_spelled labels octets))

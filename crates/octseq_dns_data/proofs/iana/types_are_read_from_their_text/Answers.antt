use Rattle.octseq_dns_data.specs.Mnemonic.{ReadsRtype, rtype_text}
use Rattle.octseq_dns_data.proofs.Mnemonics.{reads_shown, one_number, rtypes_unambiguous}
use Rattle.octseq_dns_data.proofs.iana.types_are_read_from_their_text.Goals as goal

pub returns-clause-shown : goal.returns-clause-shown
unfolding ReadsRtype rtype_text
returns-clause-shown c = reads_shown _ _

pub returns-clause-one : goal.returns-clause-one
unfolding ReadsRtype
returns-clause-one c = one_number _ _ rtypes_unambiguous

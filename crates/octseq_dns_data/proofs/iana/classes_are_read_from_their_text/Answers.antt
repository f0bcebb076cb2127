use Rattle.octseq_dns_data.specs.Mnemonic.{ReadsClass, class_text}
use Rattle.octseq_dns_data.proofs.Mnemonics.{reads_shown, one_number, classes_unambiguous}
use Rattle.octseq_dns_data.proofs.iana.classes_are_read_from_their_text.Goals as goal

pub returns-clause-shown : goal.returns-clause-shown
unfolding ReadsClass class_text
returns-clause-shown c = reads_shown _ _

pub returns-clause-one : goal.returns-clause-one
unfolding ReadsClass
returns-clause-one c = one_number _ _ classes_unambiguous

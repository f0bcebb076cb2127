use Rattle.octseq_dns_text.proofs.ShownData.{typed_shown, unknown_shown}
use Rattle.octseq_dns_text.proofs.ShownTypes.{local_same}
use Rattle.octseq_dns_text.proofs.laws.data_is_read_as_shown.Goals as goal

pub returns-clause-typed : goal.returns-clause-typed
returns-clause-typed c = typed_shown

pub returns-clause-own : goal.returns-clause-own
returns-clause-own c = λ rtype class k inside found sound is. local_same k inside found sound is.whole

pub returns-clause-opaque : goal.returns-clause-opaque
returns-clause-opaque c = unknown_shown

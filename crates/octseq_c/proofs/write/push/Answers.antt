use Rattle.octseq_c.proofs.Appended.{append_done, append_fits, longer}
use Rattle.octseq_c.proofs.write.push.Goals as goal

pub infallible-requires : goal.infallible-requires
infallible-requires g c = append_fits c.append_slice.result c.append_slice.ensures.appended c.requires

pub returns-clause-content : goal.returns-clause-content
returns-clause-content g c = append_done c.infallible.ensures c.append_slice.ensures.appended

pub returns-clause-len : goal.returns-clause-len
returns-clause-len g c = longer _ _ _ (append_done c.infallible.ensures c.append_slice.ensures.appended)

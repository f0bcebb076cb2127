use Rattle.octseq_c.proofs.MrtHeader.{begins_iff}
use Rattle.octseq_c.proofs.mrt.header.octseq_mrt_record_header.Goals as goal

pub returns-in-Ok-clause-whole : goal.returns-in-Ok-clause-whole
returns-in-Ok-clause-whole c = λ ok. begins_iff c.in-Ok.ensures.header

use Rattle.octseq_utf8.proofs.Bridge.{utf8_from_well_formed}
use Rattle.octseq_utf8.proofs.chunk.last_chunk.Goals as goal

pub from_utf8_unchecked-requires : goal.from_utf8_unchecked-requires
from_utf8_unchecked-requires c = utf8_from_well_formed _ c.requires

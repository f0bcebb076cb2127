use Rattle.octseq_utf8.proofs.Faults.{front_is, after_is}
use Rattle.octseq_utf8.proofs.Bridge.{utf8_from_well_formed}
use Rattle.octseq_utf8.proofs.ByChunk.{bad_is, chunk_at_fault}
use Rattle.octseq_utf8.proofs.chunk.chunk_to.Goals as goal

pub from_utf8_unchecked-requires : goal.from_utf8_unchecked-requires
from_utf8_unchecked-requires c =
    utf8_from_well_formed _ (rw (c.before-valid.ensures, front_is _ _ c.requires) c.requires.good)

pub returns : goal.returns
returns c =
    rw (
      c.from_utf8_unchecked.ensures,
      c.before-valid.ensures,
      front_is _ _ c.requires,
      c.bad_part.ensures,
      bad_is _ _ c.requires,
      after_is _ _ c.requires,
    ) (chunk_at_fault _ _ c.requires _ (rw (← c.error_len.ensures) c.is_none.ensures))

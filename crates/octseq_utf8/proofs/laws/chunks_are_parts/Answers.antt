use Rattle.octseq_utf8.proofs.ByChunk.{chunks_split, parts_by_chunk, text_by_chunk}
use Rattle.octseq_utf8.proofs.laws.chunks_are_parts.Goals as goal

pub returns : goal.returns
returns c =
    record { splits = λ octets chunks k. chunks_split k; first = parts_by_chunk; text = text_by_chunk }

-- Octets by their chunks: splittings, texts, turns.
pub use Rattle.octseq_text.proofs.ByChunk.{cut_is, chunk_at_fault, bad_is, chunk_at_end, mark_some}
pub use Rattle.octseq_text.proofs.ByChunk.{parts_at_chunk, text_at_chunk, whole_text, no_whole_text, splits_at_chunk}
pub use Rattle.octseq_text.proofs.ByChunk.{chunks_split, parts_by_chunk, text_by_chunk, grown, all_made}

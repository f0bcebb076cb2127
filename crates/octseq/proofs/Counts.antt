-- Writers that count the octets written to them.
pub use Rattle.octseq_text.proofs.Counts.{count_after_writes}

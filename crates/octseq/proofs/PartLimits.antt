-- Texts of parts and a limit. These are laws for callers who read octets in pieces, or one line after another.
pub use Rattle.octseq_text.proofs.PartLimits.{past_front, front_not_past}

-- Laws of limits, also for callers.
pub use Rattle.octseq_core.proofs.Limits.{past_more, within_not_past, within_if_not_past}

-- Laws of fronts, also for callers.
pub use Rattle.octseq_text.proofs.Replacing.{front_then}

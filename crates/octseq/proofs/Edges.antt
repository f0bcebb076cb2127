-- Laws of the ends of characters, also for callers.
pub use Rattle.octseq_text.proofs.Edges.{edge_stays, boundary_there}

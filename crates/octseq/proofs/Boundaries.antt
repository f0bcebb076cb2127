-- Where characters end in well-formed octets.
pub use Rattle.octseq_text.proofs.Boundaries.{boundary_from, are_in_two, at_boundary, take_before, from_boundary}
pub use Rattle.octseq_text.proofs.Boundaries.{well_formed-cut, cuts_to, boundary_here, boundary_end}

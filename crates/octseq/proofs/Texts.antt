-- The characters of well-formed octets.
pub use Rattle.octseq_text.proofs.Texts.{spelled, octets_of-chars, well_formed-append, chars-append, octets_of-append}
pub use Rattle.octseq_text.proofs.Texts.{same_text, well_formed-encoding, chars-encoding}

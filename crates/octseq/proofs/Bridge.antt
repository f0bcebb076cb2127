-- The same definitions in std: well formed is `IsUtf8`, a character is a scalar, and its encoding is `encode_utf8`.
pub use Rattle.octseq_text.proofs.Bridge.{encode-is, encodes-are, scalar_from, from_scalar, utf8_from_well_formed}
pub use Rattle.octseq_text.proofs.Bridge.{well_formed_from_utf8}

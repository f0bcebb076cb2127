-- Octets split in exactly one way, as the finder reads them.
pub use Rattle.octseq_text.proofs.Splitting.{part_len_within, parts_step, parts_nil, encoding_fitting, parts_encoding}
pub use Rattle.octseq_text.proofs.Splitting.{whole_encoding, beginning_fitting, fitting_beginning, bad_of, bad_some}
pub use Rattle.octseq_text.proofs.Splitting.{bad_length, bad_only, parts_bad, only_parts, one_splitting, splits}

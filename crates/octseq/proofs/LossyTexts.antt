-- The text of octets with a replacement for each bad part.
pub use Rattle.octseq_text.proofs.LossyTexts.{replacement_is_character, text_well_formed, text_with_long}
pub use Rattle.octseq_text.proofs.LossyTexts.{text_long, text_same, text_other, splits_fault}

-- The order of well-formed octets is the order of their characters.
pub use Rattle.octseq_text.proofs.Order.{text_order, text_equal}

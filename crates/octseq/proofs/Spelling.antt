-- What octets spell: the characters are a function of the octets, and the octets a function of the characters.
pub use Rattle.octseq_text.proofs.Spelling.{IsLed, led, begins, begins_all, chars_of, spells_chars}
pub use Rattle.octseq_text.proofs.Spelling.{octets_of_numbers, octets_of_spelled, spells_nothing, spells_one}
pub use Rattle.octseq_text.proofs.Spelling.{spells-append}

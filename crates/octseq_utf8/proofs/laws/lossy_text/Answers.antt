use Rattle.octseq_utf8.specs.Parts.{text}
use Rattle.octseq_utf8.proofs.LossyTexts.{replacement_is_character, text_well_formed, text_long, text_same}
use Rattle.octseq_utf8.proofs.laws.lossy_text.Goals as goal

pub returns : goal.returns
returns c = record {
  well_formed = λ octets parts s. text_well_formed 0xFFFD replacement_is_character s;
  longer = λ octets parts s. text_long s;
  same = text_same 0xFFFD;
  again = λ octets parts others s t.
      text_same 0xFFFD (text parts) others (text_well_formed 0xFFFD replacement_is_character s) t;
}

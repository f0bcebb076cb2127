use Rattle.std.proofs.Common.{[], ◌++◌, sym}
use Rattle.std.proofs.lemmas.List.{append-nil}
use Rattle.octseq_utf8.proofs.Fits.{encodings_begin_alike}
use Rattle.octseq_utf8.proofs.Numbers as Numbers
use Rattle.octseq_utf8.proofs.laws.one_encoding.Goals as goal

pub returns : goal.returns
returns c = record {
  encodes = Numbers.encoding_is_of;
  only = λ e f p q h. Numbers.one_encoding p q h;
  character = λ e p. Numbers.number_is_character p;
  no_front = λ e more p q. (encodings_begin_alike more [] p q (sym (append-nil (e ++ more)))).1;
}

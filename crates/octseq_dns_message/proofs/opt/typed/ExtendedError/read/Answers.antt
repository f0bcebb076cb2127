use Rattle.std.proofs.Common.{refl, subst}
use Rattle.std.specs.Str.{IsUtf8}
use Rattle.octseq.specs.Parser.{window}
use Rattle.octseq_dns_message.proofs.opt.typed.ExtendedError.read.Goals as goal

pub returns-in_default-clause-none : goal.returns-in_default-clause-none
returns-in_default-clause-none g c = λ _ it is.
    c.in_default.ensures.malformed refl (it.code, is.extra) is.end is.parts

pub returns-in-Ok-from_utf8-clause-extended_error : goal.returns-in-Ok-from_utf8-clause-extended_error
returns-in-Ok-from_utf8-clause-extended_error g c = record {
  end = window c.parse.new.parser;
  extra = window c.in-Ok.parts.1;
  parts = c.in-Ok.ensures.value;
  text = c.without_zero-text.ensures;
  utf8 = subst IsUtf8 c.peek_all.ensures.content c.in-Ok-from_utf8.ensures.cases.1;
}

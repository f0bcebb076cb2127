use Rattle.std.proofs.Common.{refl}
use Rattle.octseq.specs.Parser.{window}
use Rattle.octseq_dns_message.proofs.opt.typed.ClientSubnet.read.Goals as goal

pub returns-in_default-clause-none : goal.returns-in_default-clause-none
returns-in_default-clause-none g c = λ _ it is.
    c.in_default.ensures.malformed refl (it.family, (it.source_prefix_len, (it.scope_prefix_len, it.address))) is.end
    is.parts

pub returns-clause-subnet : goal.returns-clause-subnet
returns-clause-subnet g c = record {
  end = window c.parse.new.parser;
  parts = c.in-Ok.ensures.value;
  prefix = c.is_prefix.ensures.0 c.if-not-is_prefix.false;
}

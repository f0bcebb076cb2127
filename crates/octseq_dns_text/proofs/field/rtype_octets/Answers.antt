use Rattle.std.proofs.Common.{ap, ◌∙◌}
use Rattle.octseq.proofs.Written.{made_be_2}
use Rattle.octseq.specs.Integer.{octets_be}
use Rattle.octseq_dns_text.proofs.field.rtype_octets.Goals as goal

pub returns-in-Some-clause-some : goal.returns-in-Some-clause-some
returns-in-Some-clause-some c = (
  c.in-Some.rtype,
  c.in-Some.ensures.some,
  c.held.ensures.content ∙ c.to_be_bytes.ensures ∙ made_be_2 c.to_int.result ∙ ap (octets_be 2) c.to_int.ensures,
)

pub returns-in-None-clause-none : goal.returns-in-None-clause-none
returns-in-None-clause-none c = λ none octets (number, reads, same). c.in-None.ensures.none number reads

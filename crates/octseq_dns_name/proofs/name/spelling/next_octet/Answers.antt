use Rattle.std.proofs.Common.{[], ◌∷◌, rules}
use Rattle.octseq_dns_name.specs.Spelling.{SpellsOctet}
use Rattle.octseq_dns_name.proofs.name.spelling.next_octet.Goals as goal

pub returns-clause-ok : goal.returns-clause-ok
returns-clause-ok c = (c.args.first ∷ [], search rules, SpellsOctet.plain (search rules) (search rules))

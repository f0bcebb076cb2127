use Rattle.std.proofs.Common.{rules}
use Rattle.octseq.specs.Parser.{window}
use Rattle.octseq_dns_data.specs.Typed.{known_types}
use Rattle.octseq_dns_data.proofs.Rdata.{AreOthers, none_other}
use Rattle.octseq_dns_data.proofs.data.Data.parse_local.Goals as goal

pub returns-in_default-clause-malformed : goal.returns-in_default-clause-malformed
returns-in_default-clause-malformed g c = λ _.
    let others : AreOthers known_types c.args.rtype = search rules in
    none_other c.args.rtype c.args.class (window c.args.inside) others

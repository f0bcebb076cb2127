use Rattle.std.proofs.Common.{sym, rules}
use Rattle.octseq_dns_data.specs.Typed.{all_types}
use Rattle.octseq_dns_data.proofs.Rdata.{AreOthers, no_layout}
use Rattle.octseq_dns_data.proofs.data.layout_of.Goals as goal

pub returns-in_default : goal.returns-in_default
returns-in_default c =
    let others : AreOthers all_types c.args.rtype = search rules in
    sym (no_layout c.args.rtype c.args.class others)

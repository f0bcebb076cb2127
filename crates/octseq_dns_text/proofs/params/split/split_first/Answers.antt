use Rattle.std.proofs.Common.{sym, ◌∙◌}
use Rattle.octseq_dns_text.proofs.Splits.{split_found, split_missing}
use Rattle.octseq_dns_text.proofs.params.split.split_first.Goals as goal

pub returns-in-Some-clause-before : goal.returns-in-Some-clause-before
returns-in-Some-clause-before c =
    sym (split_found c.args.at c.in-Some.i c.args.octets.now (sym c.first_place.ensures.place ∙ c.in-Some.is)).1

pub returns-in-Some-clause-after : goal.returns-in-Some-clause-after
returns-in-Some-clause-after c =
    sym (split_found c.args.at c.in-Some.i c.args.octets.now (sym c.first_place.ensures.place ∙ c.in-Some.is)).2

pub returns-in-None-clause-before : goal.returns-in-None-clause-before
returns-in-None-clause-before c =
    sym (split_missing c.args.at c.args.octets.now (sym c.first_place.ensures.place ∙ c.in-None.is)).0

pub returns-in-None-clause-after : goal.returns-in-None-clause-after
returns-in-None-clause-after c =
    sym (split_missing c.args.at c.args.octets.now (sym c.first_place.ensures.place ∙ c.in-None.is)).1

use Rattle.std.proofs.Common.{◌≢◌, arith, rules, sym, subst}
use Rattle.octseq_dns_data.specs.Local.{IsOfClass}
use Rattle.octseq_dns_data.proofs.data.record_in.Goals as goal

pub returns-then-ne-clause-malformed : goal.returns-then-ne-clause-malformed
returns-then-ne-clause-malformed g c = λ _ k found is.
    let same = c.requires.only c.args.class (subst (λ n. IsOfClass n c.args.class) (sym is.rtype_is) is.class_is) in
    let other : c.args.class ≢ 1 = first_of (search rules, omega arith) in
    other same

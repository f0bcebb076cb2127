use Rattle.std.proofs.Common.{subst}
use Rattle.octseq.specs.Parser.{window}
use Rattle.octseq_dns_data.specs.Local.{TakesWindow, form}
use Rattle.octseq_dns_data.proofs.data.typed.Goals as goal

pub returns-clause-malformed : goal.returns-clause-malformed
returns-clause-malformed g c = λ refused _ k found is.
    let inside = window c.args.inside in
    subst (λ n. (found : (form n).Found) → TakesWindow (form n).Is inside found → ⊥) is.rtype_is
    (c.requires.agrees.none inside (c.whole.ensures.malformed refused)) found is.whole

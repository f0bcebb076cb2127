use Rattle.std.proofs.Common.{[], sym, ap, ◌∙◌, subst}
use Rattle.std.specs.Prelude.{max}
use Rattle.octseq_bgp.specs.Handling.{rank, IsWorst, LacksMandatory}
use Rattle.octseq_bgp.specs.Lists.{attributes_left}
use Rattle.octseq_bgp.specs.Parsed.{update_of}
use Rattle.octseq_bgp.proofs.message.update.UpdateMessage.handling.Goals as goal

pub returns : goal.returns
returns g c =
    let self = c.args.self.now in
    let same = c.session-session.ensures in
    let worst = rank c.worst_handling-worst.result in
    record {
      worst = worst;
      is_worst = subst (λ s. IsWorst s c.args.external [] (attributes_left self.path_attributes) worst) same
          c.worst_handling-worst.ensures;
      lacks_mandatory = c.lacks_mandatory.result;
      is_missing = (
        λ is. subst (λ s. LacksMandatory s (update_of self)) same (c.lacks_mandatory.ensures.0 is),
        λ is. c.lacks_mandatory.ensures.1 (subst (λ s. LacksMandatory s (update_of self)) (sym same) is),
      );
      is = c.max.ensures ∙ ap (λ n. max worst n) c.missing_handling.ensures;
    }

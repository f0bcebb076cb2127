use Rattle.std.proofs.Common.{[], false, sym, subst}
use Rattle.std.proofs.lemmas.List.{get_or-replicate}
use Rattle.octseq_bgp.specs.Fault.{AreFaults}
use Rattle.octseq_bgp.specs.Handling.{LacksMandatory}
use Rattle.octseq_bgp.specs.Lists.{attributes_left, attributes_session}
use Rattle.octseq_bgp.specs.Parsed.{update_of}
use Rattle.octseq_bgp.proofs.message.update.UpdateMessage.faults.Goals as goal

pub returns : goal.returns
returns g c = λ row left.
    let self = c.args.self.now in
    let same = c.session-session.ensures in
    record {
      lacks_mandatory = c.lacks_mandatory.result;
      is_missing = (
        λ is. subst (λ s. LacksMandatory s (update_of self)) same (c.lacks_mandatory.ensures.0 is),
        λ is. c.lacks_mandatory.ensures.1 (subst (λ s. LacksMandatory s (update_of self)) (sym same) is),
      );
      are = subst (λ m. AreFaults (attributes_session self.path_attributes) c.args.external []
          (attributes_left self.path_attributes) m row) c.missing_handling.ensures
          (left [] (λ k fits. (
            λ is. let none = get_or-replicate 256 k false false fits in absurd (cc),
            λ has. absurd has,
          )));
    }

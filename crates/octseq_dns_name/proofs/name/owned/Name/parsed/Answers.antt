use Rattle.std.proofs.Common.{length, sym, ap, ◌∙◌, subst}
use Rattle.octseq.specs.Parser.{window}
use Rattle.octseq.specs.Window.{Window, whole}
use Rattle.octseq_dns_name.specs.Name.{IsName}
use Rattle.octseq_dns_name.specs.OneName.{Named, named_once}
use Rattle.octseq_dns_name.specs.Owned.{owned_labels}
use Rattle.octseq_dns_name.proofs.Wires.{wire_has}
use Rattle.octseq_dns_name.proofs.name.owned.Name.parsed.Goals as goal

pub invariant_of-result : goal.invariant_of-result
invariant_of-result g c =
    let name = c.args.self.now in
    let moved = c.from_ref.ensures.window ∙ ap whole c.as_ref-octets.ensures.value in
    record {
      named = (
        owned_labels name,
        subst (λ w. ∥ ((end : Window) × IsName w (owned_labels name) end) ∥₁)
            (sym moved) name.named.1,
      );
      measured = ap length c.as_ref-octets.ensures.value ∙ ap length name.plain ∙ wire_has (owned_labels name);
    }

pub returns : goal.returns
returns g c =
    let name = c.args.self.now in
    let moved = c.from_ref.ensures.window ∙ ap whole c.as_ref-octets.ensures.value in
    let here : Named (window c.from_ref.result) = (
      owned_labels name,
      subst (λ w. ∥ ((end : Window) × IsName w (owned_labels name) end) ∥₁)
          (sym moved) name.named.1,
    ) in
    ap (λ named. named.0) (named_once (window c.from_ref.result) c.result-1.given.0 here)

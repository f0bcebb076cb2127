use Rattle.std.proofs.Common.{ℕ, sym, subst, arith}
use Rattle.octseq.specs.Parser.{window}
use Rattle.octseq.specs.Window.{Window}
use Rattle.octseq_dns_name.specs.Name.{HasLabels}
use Rattle.octseq_dns_name.specs.OneName.{one_ahead}
use Rattle.octseq_dns_name.proofs.Names.{ahead_of_name}
use Rattle.octseq_dns_name.proofs.name.labels.Labels.at.Goals as goal

pub invariant_of-result : goal.invariant_of-result
invariant_of-result g c =
    let is = c.pos-start.ensures.position in
    let all = ahead_of_name (window c.args.parser) c.requires in
    record {
      ahead = (
        c.requires.0,
        subst (λ start. ∥
            ((pointers : ℕ) × (end : Window) × HasLabels start (window c.args.parser) c.requires.0 pointers end) ∥₁)
            (sym is) all.0,
      );
      ordered = omega (arith, is);
      short = all.1;
    }

pub returns-clause-labels : goal.returns-clause-labels
returns-clause-labels g c = λ named.
    let all = ahead_of_name (window c.args.parser) named in
    let is = c.pos-start.ensures.position in
    one_ahead c.pos-start.result (window c.args.parser) c.result-1.given.0 (
      named.0,
      subst (λ start. ∥ ((pointers : ℕ) × (end : Window)
          × HasLabels start (window c.args.parser) named.0 pointers end) ∥₁) (sym is) all.0,
    )

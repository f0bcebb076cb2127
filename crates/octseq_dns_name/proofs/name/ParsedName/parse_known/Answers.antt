use Rattle.std.proofs.Common.{subst}
use Rattle.std.proofs.Math.Logic.{∥∥₁_prop, ∥∥₁_elim}
use Rattle.octseq.specs.Parser.{window}
use Rattle.octseq_dns_name.specs.Name.{IsName}
use Rattle.octseq_dns_name.proofs.name.ParsedName.parse_known.Goals as goal

pub returns-clause-name : goal.returns-clause-name
returns-clause-name g c =
    let w = window c.args.parser.now in
    let named = c.result-1.given.0 in
    ∥∥₁_elim named.1 ∥∥₁_prop (λ x. ∣ subst (IsName w named.0) (c.skip_known.ensures.end named.0 x.0 x.1) x.1 ∣₁)

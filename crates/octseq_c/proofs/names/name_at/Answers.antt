use Rattle.std.proofs.Common.{◌∙◌, ap, sym, subst}
use Rattle.octseq.specs.Window.{at}
use Rattle.octseq_dns_name.specs.Name.{IsName}
use Rattle.octseq_c.proofs.Puts.{when_err}
use Rattle.octseq_c.proofs.names.name_at.Goals as goal

pub returns-in-Ok-clause-malformed : goal.returns-in-Ok-clause-malformed
returns-in-Ok-clause-malformed c =
    when_err c.parse.result (λ err labels name.
    let same = c.in-Ok.ensures.ok ∙ ap (at c.args.offset) c.from_ref-parser.ensures.window in
    c.parse.ensures.malformed err labels name.end (subst (λ w. IsName w labels name.end) (sym same) name.name))

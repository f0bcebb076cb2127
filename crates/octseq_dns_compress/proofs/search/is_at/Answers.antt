use Rattle.std.proofs.Common.{sym, ◌∙◌}
use Rattle.std.specs.Cmp.{Equal-is}
use Rattle.octseq_dns_compress.specs.Key.{key}
use Rattle.octseq_dns_compress.proofs.Keys.{key_there, key_equal}
use Rattle.octseq_dns_compress.proofs.search.is_at.Goals as goal

pub returns-then-index-targets : goal.returns-then-index-targets
returns-then-index-targets c =
    let reported = c.compare.result in
    let key = key c.args.next c.args.label.now in
    let octets = c.args.octets.now in
    let targets = c.args.targets.now in (
      λ yes. key_there octets targets key c.args.index _ c.if-index-targets.true
          (sym c.compare.ensures ∙ (Equal-is reported).0 (sym c.is_eq.ensures ∙ yes)),
      λ has. c.is_eq.ensures
          ∙ (Equal-is reported).1 (c.compare.ensures ∙ key_equal octets targets key c.args.index _ has),
    )

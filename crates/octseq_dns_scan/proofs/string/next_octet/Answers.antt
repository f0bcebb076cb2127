use Rattle.std.proofs.Common.{◌≡◌, [], ◌∷◌, ap, ◌∙◌, rules}
use Rattle.std.proofs.lemmas.Option.{IfSome_then}
use Rattle.octseq_dns_scan.specs.Spelled.{SpellsOctetBut}
use Rattle.octseq_dns_scan.proofs.string.next_octet.Goals as goal

pub returns-then-first-eq92-clause-some : goal.returns-then-first-eq92-clause-some
returns-then-first-eq92-clause-some c =
    let here : c.args.text.now ≡ 92 ∷ c.in_ok-first.rest.now = search rules in
    IfSome_then c.next_escaped.result c.next_escaped.ensures.some
    (λ taken is. let it = is c.args.quoted in (92 ∷ it.0, here ∙ ap (λ l. 92 ∷ l) it.1, it.2))

pub returns-clause-some : goal.returns-clause-some
returns-clause-some c = (c.in_ok-first.first.now ∷ [], search rules, SpellsOctetBut.plain (search rules))

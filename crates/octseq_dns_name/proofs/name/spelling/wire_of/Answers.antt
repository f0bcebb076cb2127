use Rattle.std.proofs.Common.{◌≡◌, [], ◌∷◌, rules}
use Rattle.octseq_dns_name.proofs.SpellingSteps.{unfinished, nothing_there, nothing_refused, finished}
use Rattle.octseq_dns_name.proofs.name.spelling.wire_of.Goals as goal

pub returns-then-not-is_empty-clause-refused : goal.returns-then-not-is_empty-clause-refused
returns-then-not-is_empty-clause-refused c =
    let read = c.in_ok-octets.ensures.ok in
    let some : ¬ (c.in_ok-octets.last.content ≡ []) = search rules in
    let root : ¬ (c.args.text.now ≡ 46 ∷ []) = search rules in
    unfinished read.0 c.args.text.now c.in_ok-octets.last.content read.2 some root

pub returns-then-is_empty-clause-refused : goal.returns-then-is_empty-clause-refused
returns-then-is_empty-clause-refused c =
    let text = c.args.text.now in
    let read = c.in_ok-octets.ensures.ok in
    let none : c.in_ok-octets.octets.content ≡ [] = search rules in
    let over : c.in_ok-octets.last.content ≡ [] = search rules in
    let root : ¬ (text ≡ 46 ∷ []) = search rules in
    nothing_refused text
    (nothing_there c.in_ok-octets.octets.content read.0 text c.in_ok-octets.last.content read.1 read.2 none over) root

pub returns-clause-ok : goal.returns-clause-ok
returns-clause-ok c =
    let read = c.in_ok-octets.ensures.ok in
    let some : ¬ (c.in_ok-octets.octets.content ≡ []) = search rules in
    let over : c.in_ok-octets.last.content ≡ [] = search rules in
    let whole = finished c.in_ok-octets.octets.content read.0 c.args.text.now c.in_ok-octets.last.content
    c.with_root-2.result.content read.1 read.2 some over c.with_root-2.ensures in
    (read.0, whole.0, whole.1)

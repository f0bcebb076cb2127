use Rattle.std.proofs.Common.{◌≡◌, ◌+◌, ◌<◌, ◌≤◌, ℕ, inl, inr, refl, List, [], ◌∷◌, ◌++◌, length, subst, sym, ◌∙◌}
use Rattle.std.proofs.Common.{rules}
use Rattle.std.proofs.lemmas.Result.{IfOk-weaker, IfErr-weaker}
use Rattle.octseq_dns_name.specs.Name.{wire_length}
use Rattle.octseq_dns_name.specs.Origin.{IsRefusedWithOrigin, SpellsWithOrigin}
use Rattle.octseq_dns_name.specs.Read.{labels_of, place_of}
use Rattle.octseq_dns_name.specs.Refused.{ReadsAll}
use Rattle.octseq_dns_name.specs.Wire.{wire, AreLabels, IsWireOf}
use Rattle.octseq_dns_name.specs.declared.error.FromTextError.{FromTextError}
use Rattle.octseq_dns_name.proofs.Names.{ahead_of_name}
use Rattle.octseq_dns_name.proofs.SpellingSteps.{nothing_there, finished, relative_made, relative_long}
use Rattle.octseq_dns_name.proofs.name.spelling.wire_with_origin.Goals as goal

pub returns-then-eq-2-clause-ok : goal.returns-then-eq-2-clause-ok
returns-then-eq-2-clause-ok g c =
    let name = c.args.origin.now in
    let short = (ahead_of_name (place_of name) name.named).1 in
    (labels_of name, (search rules, c.with_name.ensures.labels, short), inr (inl (search rules, refl)))

pub returns-then-not-is_empty-clause-ok : goal.returns-then-not-is_empty-clause-ok
returns-then-not-is_empty-clause-ok g c =
    let origin = labels_of c.args.origin.now in
    let text = c.args.text.now in
    let octets = c.in_ok-octets.octets.content in
    let label = c.as_slice-then-not-is_empty.result.now in
    let same = c.as_slice-then-not-is_empty.ensures.content in
    let read = c.in_ok-octets.ensures.ok in
    let some : ¬ (c.in_ok-octets.last.content ≡ []) = search rules in
    IfOk-weaker c.with_label_and_name.result
    (λ all. (all.content ≡ octets ++ length label ∷ label ++ wire origin) × AreLabels origin
    × (length octets + 1 + length label + wire_length origin ≤ 255))
    (λ all. (names : List (List ℕ)) × IsWireOf names all.content × SpellsWithOrigin origin names text)
    (λ all made. relative_made origin read.0 text octets label all.content read.1
    (subst (ReadsAll text read.0) (sym same) read.2) (λ none. some (sym same ∙ none)) made.0 made.1 made.2)
    c.with_label_and_name.ensures.ok

pub returns-then-not-is_empty-clause-refused : goal.returns-then-not-is_empty-clause-refused
returns-then-not-is_empty-clause-refused g c =
    let origin = labels_of c.args.origin.now in
    let text = c.args.text.now in
    let octets = c.in_ok-octets.octets.content in
    let label = c.as_slice-then-not-is_empty.result.now in
    let same = c.as_slice-then-not-is_empty.ensures.content in
    let read = c.in_ok-octets.ensures.ok in
    let some : ¬ (c.in_ok-octets.last.content ≡ []) = search rules in
    IfErr-weaker c.with_label_and_name.result
    (λ fault. (fault ≡ FromTextError.LongName) × (255 < length octets + 1 + length label + wire_length origin))
    (λ fault. IsRefusedWithOrigin origin fault text)
    (λ fault is. subst (λ f. IsRefusedWithOrigin origin f text) (sym is.0)
    (relative_long origin read.0 text octets label read.1 (subst (ReadsAll text read.0) (sym same) read.2)
    (λ none. some (sym same ∙ none)) is.1))
    c.with_label_and_name.ensures.long

pub returns-then-is_empty-clause-refused : goal.returns-then-is_empty-clause-refused
returns-then-is_empty-clause-refused g c =
    let read = c.in_ok-octets.ensures.ok in
    let none : c.in_ok-octets.octets.content ≡ [] = search rules in
    let over : c.in_ok-octets.last.content ≡ [] = search rules in
    nothing_there c.in_ok-octets.octets.content read.0 c.args.text.now c.in_ok-octets.last.content read.1 read.2 none
    over

pub returns-clause-ok : goal.returns-clause-ok
returns-clause-ok g c =
    let read = c.in_ok-octets.ensures.ok in
    let some : ¬ (c.in_ok-octets.octets.content ≡ []) = search rules in
    let over : c.in_ok-octets.last.content ≡ [] = search rules in
    let whole = finished c.in_ok-octets.octets.content read.0 c.args.text.now c.in_ok-octets.last.content
    c.with_root-2.result.content read.1 read.2 some over c.with_root-2.ensures in
    (read.0, whole.0, inl whole.1)

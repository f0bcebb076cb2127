use Rattle.std.proofs.Common.{refl, sym, ap, ◌∙◌, subst}
use Rattle.octseq.specs.Parser.{window}
use Rattle.octseq.specs.Window.{at}
use Rattle.octseq_dns_name.specs.Name.{IsName}
use Rattle.octseq_dns_name.specs.Pass.{NoName, NameEnds}
use Rattle.octseq_dns_name.proofs.Names.{named_as}
use Rattle.octseq_dns_name.proofs.Passes.{own_window, ends_counted}
use Rattle.octseq_dns_name.proofs.name.ParsedName.parse_counted.Goals as goal

pub returns-in_default-clause-malformed : goal.returns-in_default-clause-malformed
returns-in_default-clause-malformed g c = λ _.
    let octets = c.as_ref.ensures.value ∙ ap g.R.AsOctets.content c.octets_ref-octets.ensures in
    subst NoName (own_window (window c.args.parser.now) c.as_ref.result.now c.pos-place.result c.len-end.result octets
    c.pos-place.ensures.position c.len-end.ensures.end) (c.in_default.ensures.none refl)

pub invariant_of-name : goal.invariant_of-name
invariant_of-name g c =
    let w = window c.args.parser.now in
    let octets = c.as_ref.ensures.value ∙ ap g.R.AsOctets.content c.octets_ref-octets.ensures in
    let ends = subst (λ w. NameEnds w c.in-Some.after c.in-Some.len c.args.turns.now c.name_end.new.turns)
    (own_window w c.as_ref.result.now c.pos-place.result c.len-end.result octets c.pos-place.ensures.position
    c.len-end.ensures.end) c.in-Some.ensures.some in
    record { named = (ends.labels, ∣ (at c.in-Some.after w, ends.name) ∣₁); measured = ends.size }

pub returns-clause-name : goal.returns-clause-name
returns-clause-name g c =
    let w = window c.args.parser.now in
    let octets = c.as_ref.ensures.value ∙ ap g.R.AsOctets.content c.octets_ref-octets.ensures in
    let ends = subst (λ w. NameEnds w c.in-Some.after c.in-Some.len c.args.turns.now c.name_end.new.turns)
    (own_window w c.as_ref.result.now c.pos-place.result c.len-end.result octets c.pos-place.ensures.position
    c.len-end.ensures.end) c.in-Some.ensures.some in
    let end = at c.in-Some.after w in
    let moved = rw c.infallible.ensures at c.seek.ensures.ok in
    subst (IsName w c.result-1.given.0.0) (sym moved)
    (subst (λ labels. IsName w labels end) (named_as w end ends.labels c.result-1.given.0 ends.name) ends.name)

pub returns-clause-counted : goal.returns-clause-counted
returns-clause-counted g c = λ labels end name.
    let w = window c.args.parser.now in
    let octets = c.as_ref.ensures.value ∙ ap g.R.AsOctets.content c.octets_ref-octets.ensures in
    let ends = subst (λ w. NameEnds w c.in-Some.after c.in-Some.len c.args.turns.now c.name_end.new.turns)
    (own_window w c.as_ref.result.now c.pos-place.result c.len-end.result octets c.pos-place.ensures.position
    c.len-end.ensures.end) c.in-Some.ensures.some in
    ends_counted w c.in-Some.after c.in-Some.len c.args.turns.now c.name_end.new.turns ends labels end name

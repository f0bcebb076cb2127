use Rattle.std.proofs.Common.{true, false, refl, sym, ◌∙◌}
use Rattle.octseq.specs.Parser.{window}
use Rattle.octseq_bgp.proofs.NlriLists.{fill_plain, fill_with_paths, from_session, to_session}
use Rattle.octseq_bgp.proofs.prefix.Prefixes.parse_counted.Goals as goal

pub returns-in_err-left-clause-malformed : goal.returns-in_err-left-clause-malformed
returns-in_err-left-clause-malformed g c = λ _ row are.
    let them = from_session c.args.session.now c.args.family true c.afi-afi.result (window c.args.parser) row
    (sym c.if-paths.true ∙ c.has-paths.ensures) c.afi-afi.ensures are in
    c.in_err-left.ensures.counts.malformed refl them.0 them.1

pub returns-then-paths-clause-prefixes : goal.returns-then-paths-clause-prefixes
returns-then-paths-clause-prefixes g c =
    to_session c.args.session.now c.args.family c.has-paths.result c.afi-afi.result
    (window c.args.parser) _ c.has-paths.ensures
    c.afi-afi.ensures
    (fill_with_paths c.has-paths.result c.afi-afi.result (window c.args.parser) c.in_ok-left.left c.if-paths.true
    c.in_ok-left.ensures.counts.filled c.result-1.given.0)

pub returns-in_err-left-2-clause-malformed : goal.returns-in_err-left-2-clause-malformed
returns-in_err-left-2-clause-malformed g c = λ _ row are.
    let them = from_session c.args.session.now c.args.family false c.afi-afi.result (window c.args.parser) row
    (sym c.if-paths.false ∙ c.has-paths.ensures) c.afi-afi.ensures are in
    c.in_err-left-2.ensures.counts.malformed refl them.0 them.1

pub returns-clause-prefixes : goal.returns-clause-prefixes
returns-clause-prefixes g c =
    to_session c.args.session.now c.args.family c.has-paths.result c.afi-afi.result
    (window c.args.parser) _ c.has-paths.ensures
    c.afi-afi.ensures
    (fill_plain c.has-paths.result c.afi-afi.result (window c.args.parser) c.in_ok-left-2.left c.if-paths.false
    c.in_ok-left-2.ensures.counts.filled c.result-2-1.given.0)

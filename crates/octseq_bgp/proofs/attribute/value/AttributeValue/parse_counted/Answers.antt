use Rattle.std.proofs.Common.{refl, subst}
use Rattle.octseq.specs.Parser.{window}
use Rattle.octseq_bgp.specs.Value.{HasForm}
use Rattle.octseq_bgp.proofs.attribute.value.AttributeValue.parse_counted.Goals as goal

pub returns-in_err-parse_origin-in-Origin-clause-malformed : goal.returns-in_err-parse_origin-in-Origin-clause-malformed
returns-in_err-parse_origin-in-Origin-clause-malformed g c = λ _ value is.
    let typed = subst (λ t. HasForm c.args.session.now t (window c.args.parser) value) c.in-Origin.is is in
    c.in_err-parse_origin-in-Origin.ensures.malformed refl typed.0 typed.2

pub returns-in_err-parse_counted-in-AsPath-clause-malformed :
    goal.returns-in_err-parse_counted-in-AsPath-clause-malformed
returns-in_err-parse_counted-in-AsPath-clause-malformed g c = λ _ value is.
    let typed = subst (λ t. HasForm c.args.session.now t (window c.args.parser) value) c.in-AsPath.is is in
    c.in_err-parse_counted-in-AsPath.ensures.malformed refl typed.0 typed.2

pub returns-in_err-parse_all-in-NextHop-clause-malformed : goal.returns-in_err-parse_all-in-NextHop-clause-malformed
returns-in_err-parse_all-in-NextHop-clause-malformed g c = λ _ value is.
    let typed = subst (λ t. HasForm c.args.session.now t (window c.args.parser) value) c.in-NextHop.is is in
    c.in_err-parse_all-in-NextHop.ensures.malformed refl typed.0 typed.2

pub returns-in_err-parse_all-in-MultiExitDisc-clause-malformed :
    goal.returns-in_err-parse_all-in-MultiExitDisc-clause-malformed
returns-in_err-parse_all-in-MultiExitDisc-clause-malformed g c = λ _ value is.
    let typed = subst (λ t. HasForm c.args.session.now t (window c.args.parser) value) c.in-MultiExitDisc.is is in
    c.in_err-parse_all-in-MultiExitDisc.ensures.malformed refl typed.0 typed.2

pub returns-in_err-parse_all-in-LocalPref-clause-malformed : goal.returns-in_err-parse_all-in-LocalPref-clause-malformed
returns-in_err-parse_all-in-LocalPref-clause-malformed g c = λ _ value is.
    let typed = subst (λ t. HasForm c.args.session.now t (window c.args.parser) value) c.in-LocalPref.is is in
    c.in_err-parse_all-in-LocalPref.ensures.malformed refl typed.0 typed.2

pub returns-in_err-parse-in-Aggregator-clause-malformed : goal.returns-in_err-parse-in-Aggregator-clause-malformed
returns-in_err-parse-in-Aggregator-clause-malformed g c = λ _ value is.
    let typed = subst (λ t. HasForm c.args.session.now t (window c.args.parser) value) c.in-Aggregator.is is in
    c.in_err-parse-in-Aggregator.ensures.malformed refl typed.0 typed.2

pub returns-in_err-parse_all-in-OriginatorId-clause-malformed :
    goal.returns-in_err-parse_all-in-OriginatorId-clause-malformed
returns-in_err-parse_all-in-OriginatorId-clause-malformed g c = λ _ value is.
    let typed = subst (λ t. HasForm c.args.session.now t (window c.args.parser) value) c.in-OriginatorId.is is in
    c.in_err-parse_all-in-OriginatorId.ensures.malformed refl typed.0 typed.2

pub returns-in_err-parse_counted-in-MpReachNlri-clause-malformed :
    goal.returns-in_err-parse_counted-in-MpReachNlri-clause-malformed
returns-in_err-parse_counted-in-MpReachNlri-clause-malformed g c = λ _ value is.
    let typed = subst (λ t. HasForm c.args.session.now t (window c.args.parser) value) c.in-MpReachNlri.is is in
    c.in_err-parse_counted-in-MpReachNlri.ensures.malformed refl typed.0 typed.2

pub returns-in_err-parse_counted-in-MpUnreachNlri-clause-malformed :
    goal.returns-in_err-parse_counted-in-MpUnreachNlri-clause-malformed
returns-in_err-parse_counted-in-MpUnreachNlri-clause-malformed g c = λ _ value is.
    let typed = subst (λ t. HasForm c.args.session.now t (window c.args.parser) value) c.in-MpUnreachNlri.is is in
    c.in_err-parse_counted-in-MpUnreachNlri.ensures.malformed refl typed.0 typed.2

pub returns-in_err-parse_counted-in-As4Path-clause-malformed :
    goal.returns-in_err-parse_counted-in-As4Path-clause-malformed
returns-in_err-parse_counted-in-As4Path-clause-malformed g c = λ _ value is.
    let typed = subst (λ t. HasForm c.args.session.now t (window c.args.parser) value) c.in-As4Path.is is in
    c.in_err-parse_counted-in-As4Path.ensures.malformed refl typed.0 typed.2

pub returns-in_err-parse-in-As4Aggregator-clause-malformed : goal.returns-in_err-parse-in-As4Aggregator-clause-malformed
returns-in_err-parse-in-As4Aggregator-clause-malformed g c = λ _ value is.
    let typed = subst (λ t. HasForm c.args.session.now t (window c.args.parser) value) c.in-As4Aggregator.is is in
    c.in_err-parse-in-As4Aggregator.ensures.malformed refl typed.0 typed.2

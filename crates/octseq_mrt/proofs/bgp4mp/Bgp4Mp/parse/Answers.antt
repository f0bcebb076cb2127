use Rattle.std.proofs.Common.{refl, sym, subst}
use Rattle.octseq.specs.Parser.{window}
use Rattle.octseq_mrt.specs.Bgp4Mp.{IsEvent, IsBgp4MpFront}
use Rattle.octseq_mrt.proofs.OneRecord.{front_parts, one_front}
use Rattle.octseq_mrt.proofs.bgp4mp.Bgp4Mp.parse.Goals as goal

pub returns-in_err-front-clause-malformed : goal.returns-in_err-front-clause-malformed
returns-in_err-front-clause-malformed g c = λ _ it is.
    let parts = front_parts it is.afi in
    c.in_err-front.ensures.malformed refl parts is.rest
    (subst (λ wide. IsBgp4MpFront c.args.extended wide (window c.args.parser) parts is.rest)
    (sym c.has_wide_asns-wide.ensures) is.front)

pub returns-in_err-event-clause-malformed : goal.returns-in_err-event-clause-malformed
returns-in_err-event-clause-malformed g c = λ _ it is.
    let parts = front_parts it is.afi in
    let front = subst (λ wide. IsBgp4MpFront c.args.extended wide (window c.args.parser) parts is.rest)
    (sym c.has_wide_asns-wide.ensures) is.front in
    let same = (one_front c.args.extended c.has_wide_asns-wide.result).same (window c.args.parser) parts _ is.rest
    (window c.parse.new.parser) front c.in_ok-front.ensures.front in
    c.in_err-event.ensures.malformed refl it.event (subst (λ w. IsEvent c.args.subtype w it.event) same.1 is.event)

pub returns-clause-bgp4mp : goal.returns-clause-bgp4mp
returns-clause-bgp4mp g c = record {
  afi = c.in_ok-front.front.addresses.afi;
  rest = window c.parse.new.parser;
  front = rw c.has_wide_asns-wide.ensures at c.in_ok-front.ensures.front;
  event = c.in_ok-event.ensures.event;
}

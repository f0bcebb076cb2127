use Rattle.std.proofs.Common.{inr, refl, arith}
use Rattle.octseq.specs.Parser.{window}
use Rattle.octseq_bgp.specs.Stop.{BodyStop}
use Rattle.octseq_bgp.proofs.Stops.{stops_in}
use Rattle.octseq_bgp.proofs.message.offset.fault_offset.Goals as goal

pub returns-in_default : goal.returns-in_default
returns-in_default g c =
    inr (λ kind body has. c.in_default.ensures.malformed refl kind body has.header has.short, refl)

pub returns-in-1 : goal.returns-in-1
returns-in-1 g c =
    let header = c.in-Ok.header in
    let is = c.in-1.is in
    stops_in c.args.session (g.R.AsOctets.content c.args.octets) header.kind (window header.body)
    c.offset_in_open.result c.in-Ok.ensures.header c.in-Ok.ensures.short (omega (arith, is))
    (omega (arith, is)) (BodyStop.opens is c.offset_in_open.ensures)

pub returns-in-2 : goal.returns-in-2
returns-in-2 g c =
    let header = c.in-Ok.header in
    let is = c.in-2.is in
    stops_in c.args.session (g.R.AsOctets.content c.args.octets) header.kind (window header.body)
    c.offset_in_update.result c.in-Ok.ensures.header c.in-Ok.ensures.short (omega (arith, is))
    (omega (arith, is)) (BodyStop.update is c.offset_in_update.ensures)

pub returns-in-3 : goal.returns-in-3
returns-in-3 g c =
    let header = c.in-Ok.header in
    let is = c.in-3.is in
    stops_in c.args.session (g.R.AsOctets.content c.args.octets) header.kind (window header.body)
    c.offset_after.result c.in-Ok.ensures.header c.in-Ok.ensures.short (omega (arith, is))
    (omega (arith, is)) (BodyStop.notification is c.offset_after.ensures)

pub returns-in-4 : goal.returns-in-4
returns-in-4 g c =
    let header = c.in-Ok.header in
    let is = c.in-4.is in
    stops_in c.args.session (g.R.AsOctets.content c.args.octets) header.kind (window header.body)
    c.pos.result c.in-Ok.ensures.header c.in-Ok.ensures.short (omega (arith, is))
    (omega (arith, is)) (BodyStop.keepalive is c.pos.ensures.position)

pub returns-in-5 : goal.returns-in-5
returns-in-5 g c =
    let header = c.in-Ok.header in
    let is = c.in-5.is in
    stops_in c.args.session (g.R.AsOctets.content c.args.octets) header.kind (window header.body)
    c.offset_after-in-5.result c.in-Ok.ensures.header c.in-Ok.ensures.short (omega (arith, is))
    (omega (arith, is)) (BodyStop.route_refresh is c.offset_after-in-5.ensures)

use Rattle.std.proofs.Common.{[], ap, length, ◌∙◌, arith}
use Rattle.octseq_bgp.specs.WrittenRouteRefresh.{WrittenRouteRefresh, route_refresh_in}
use Rattle.octseq_bgp.proofs.WrittenMessages.{is_written, route_refresh_grows}
use Rattle.octseq_bgp.proofs.message.route_refresh_builder.RouteRefreshBuilder.from_builder.Goals as goal

pub invariant_of-result : goal.invariant_of-result
invariant_of-result g c =
    let r : WrittenRouteRefresh = record { afi = c.args.afi; subtype = c.args.subtype; safi = c.args.safi; orf = [] } in
    is_written route_refresh_grows r _ _ (omega arith) (c.in-Ok.ensures.ok ∙ c.front.ensures)
    (omega (arith, ap length c.in-Ok.ensures.ok, c.longest-most.ensures.least)) c.longest-most.ensures.most

pub returns-clause-message : goal.returns-clause-message
returns-clause-message g c =
    ap route_refresh_in (c.in-Ok.ensures.ok ∙ c.front.ensures) ∙ route_refresh_grows.back _ (omega arith)

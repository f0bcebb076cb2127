use Rattle.std.proofs.Common.{◌≡◌, ap, arith}
use Rattle.octseq_bgp.specs.PathOf.{path_wide, segments_left}
use Rattle.octseq_c.specs.BgpPath.{path_room}
use Rattle.octseq_c.proofs.BgpPath.{path_long}
use Rattle.octseq_c.proofs.bgp.path.hops_count.Goals as goal

pub returns : goal.returns
returns g c =
    let all = c.segments.invariant.all in
    let wide = path_wide c.args.path in
    let none : path_room (wide, segments_left c.segments.ahead) ≡ 0 =
    ap (λ row. path_room (wide, row)) c.in_default.ensures.steps.0.0 in
    let long = path_long wide (segments_left c.args.path) in
    omega (arith, all, none, long)

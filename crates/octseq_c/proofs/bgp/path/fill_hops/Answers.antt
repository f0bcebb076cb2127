use Rattle.std.proofs.Common.{◌≡◌, ◌+◌, ◌≤◌, ◌++◌, take, drop, length, ap, sym, subst, ◌∙◌, arith, append_assoc}
use Rattle.std.proofs.Common.{length-append}
use Rattle.octseq_bgp.specs.PathOf.{path_wide, segment_of, segments_left}
use Rattle.octseq_c.specs.BgpPath.{hops_of, rows_of_segment}
use Rattle.octseq_c.proofs.BgpFilled.{copy_long}
use Rattle.octseq_c.proofs.Placed.{placed_after}
use Rattle.octseq_c.proofs.bgp.path.fill_hops.Goals as goal

-- what is ahead has room
pub fill_segment-at-requires : goal.fill_segment-at-requires
fill_segment-at-requires g c =
    let so_far = c.segments.invariant in
    let w = path_wide c.args.path in
    let segment = c.in-Some.segment in
    let rows = rows_of_segment w (segment_of segment) in
    let more = hops_of (w, segments_left c.next.new.self) in
    let wide = c.in-Some.ensures.steps.2 ∙ so_far.wide in
    let same = ap (λ wide. length (rows_of_segment wide (segment_of segment))) wide in
    let whole = ap (λ row. so_far.done ++ hops_of (w, row)) (sym c.in-Some.ensures.steps.0) ∙ so_far.whole in
    let all = ap length whole in
    let front = length-append so_far.done (rows ++ more) in
    let back = length-append rows more in
    omega (arith, same, all, front, back, so_far.offset, so_far.long, c.requires)

pub segments-preserved : goal.segments-preserved
segments-preserved g c =
    let so_far = c.segments.invariant in
    let w = path_wide c.args.path in
    let segment = c.in-Some.segment in
    let rows = rows_of_segment w (segment_of segment) in
    let wide = c.in-Some.ensures.steps.2 ∙ so_far.wide in
    let end = c.fill_segment-at.ensures.end
    ∙ ap (λ wide. c.segments.at + length (rows_of_segment wide (segment_of segment))) wide in
    let out = subst (λ wide. c.fill_segment-at.new.out ≡ take c.segments.at c.segments.out
    ++ (rows_of_segment wide (segment_of segment) ++ drop c.fill_segment-at.result c.segments.out)) wide
    c.fill_segment-at.ensures.out in
    let more = hops_of (w, segments_left c.next.new.self) in
    let whole = ap (λ row. so_far.done ++ hops_of (w, row)) (sym c.in-Some.ensures.steps.0) ∙ so_far.whole in
    let all = ap length whole in
    let front = length-append so_far.done (rows ++ more) in
    let back = length-append rows more in
    let within : c.fill_segment-at.result ≤ length c.segments.out =
    omega (arith, end, all, front, back, so_far.offset, so_far.long, c.requires) in
    record {
      wide = c.in-Some.ensures.steps.1 ∙ so_far.wide;
      done = so_far.done ++ rows;
      whole = append_assoc so_far.done rows more ∙ whole;
      offset = omega (arith, end, length-append so_far.done rows, so_far.offset);
      written = placed_after c.args.out.now c.segments.out c.fill_segment-at.new.out so_far.done rows c.segments.at
          c.fill_segment-at.result (sym so_far.offset) end so_far.written out;
      long = copy_long c.segments.out c.fill_segment-at.new.out rows c.segments.at c.fill_segment-at.result end
          within out ∙ so_far.long;
    }

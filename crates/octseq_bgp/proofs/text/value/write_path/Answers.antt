use Rattle.std.proofs.Common.{rules, ◌++◌, ap, sym, subst, ◌∙◌, append_assoc}
use Rattle.std.proofs.Output.{has_written_append}
use Rattle.std.specs.Fmt.{HasWritten}
use Rattle.octseq_bgp.specs.OctetsText.{spaced}
use Rattle.octseq_bgp.specs.PathOf.{path_wide, segment_of, segments_left}
use Rattle.octseq_bgp.specs.ValueText.{segment_words, path_text}
use Rattle.octseq_bgp.proofs.text.value.write_path.Goals as goal

pub segments-preserved : goal.segments-preserved
segments-preserved g c =
    let so_far = c.segments.invariant in
    let wide = path_wide c.args.path in
    let segment = c.in-Some.segment in
    let took = g.W.Write.write_str_gives in
    record {
      wide = c.in-Some.ensures.steps.1 ∙ so_far.wide;
      written = λ plain.
          let before = so_far.written plain in
          let here : HasWritten took c.segments.f
          (spaced (segment_words segment.wide (segment_of segment))) c.write.new.self =
          search rules in
          let text = spaced (segment_words wide (segment_of segment)) in (
            before.0 ++ text,
            has_written_append _ _ _ _ _ _ before.1
                (subst (λ w. HasWritten took c.segments.f
                (spaced (segment_words w (segment_of segment))) c.write.new.self)
                (c.in-Some.ensures.steps.2 ∙ so_far.wide) here),
            append_assoc before.0 text (path_text (wide, segments_left c.next.new.self))
                ∙ ap (λ row. before.0 ++ path_text (wide, row)) (sym c.in-Some.ensures.steps.0) ∙ before.2,
          );
    }

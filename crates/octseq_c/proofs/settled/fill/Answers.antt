use Rattle.std.proofs.Common.{[], length, refl, arith, ap, sym, ◌∙◌, subst}
use Rattle.octseq_text.proofs.Piecewise.{read_valid, read_to_end}
use Rattle.octseq_c.specs.LossyText.{end_text}
use Rattle.octseq_c.proofs.SettledTexts.{WritesTo, writes_start, writes_more, read_mark, room_more, written}
use Rattle.octseq_c.proofs.settled.fill.Goals as goal

pub loop-chunk-init : goal.loop-chunk-init
loop-chunk-init c =
    rw (c.into_iter-chunk-iterator.ensures.into_iter_gives, c.chunks-chunk-items.ensures) (writes_start _ _ _)

pub put_at-at-requires : goal.put_at-at-requires
put_at-at-requires c =
    let bytes = c.as_bytes.ensures.value ∙ c.valid.ensures in
    let within = room_more c.requires c.loop-chunk.invariant.to (read_valid _ _ _ c.in-Some.ensures.steps []) in
    omega (arith, ap length bytes, within)

pub put_at-at-requires-in-loop-chunk : goal.put_at-at-requires-in-loop-chunk
put_at-at-requires-in-loop-chunk c =
    let gives = c.in-Some.ensures.steps in
    let bytes = c.as_bytes.ensures.value ∙ c.valid.ensures in
    let valid = writes_more _ bytes c.requires c.loop-chunk.invariant (read_valid _ _ _ gives [])
    c.put_at-at.ensures.end c.put_at-at.ensures.octets in
    let mark = read_mark _ _ _ gives _ c.is_incomplete.ensures c.if-is_incomplete.false in
    omega (arith, room_more c.requires valid.to mark, ap length (c.replacement.ensures ∙ ap end_text c.invalid.ensures))

pub loop-chunk-preserved : goal.loop-chunk-preserved
loop-chunk-preserved c =
    let gives = c.in-Some.ensures.steps in
    let bytes = c.as_bytes.ensures.value ∙ c.valid.ensures in
    let valid = writes_more _ bytes c.requires c.loop-chunk.invariant (read_valid _ _ _ gives [])
    c.put_at-at.ensures.end c.put_at-at.ensures.octets in
    writes_more _ (c.replacement.ensures ∙ ap end_text c.invalid.ensures) c.requires valid
    (read_mark _ _ _ gives _ c.is_incomplete.ensures c.if-is_incomplete.false)
    c.put_at-at-in-loop-chunk.ensures.end c.put_at-at-in-loop-chunk.ensures.octets

pub returns-then-is_incomplete : goal.returns-then-is_incomplete
returns-then-is_incomplete c =
    let gives = c.in-Some.ensures.steps in
    let cut = sym c.is_incomplete.ensures ∙ c.if-is_incomplete.true in
    let bytes = c.as_bytes.ensures.value ∙ c.valid.ensures in
    let all = writes_more _ bytes c.requires c.loop-chunk.invariant (read_to_end _ _ _ gives cut [])
    c.put_at-at.ensures.end c.put_at-at.ensures.octets in
    written all (λ some. (gives.cut.0 cut).0)

pub returns : goal.returns
returns c =
    let all = subst (λ y. WritesTo c.args.octets.now y c.args.before c.args.out.now c.loop-chunk.out c.loop-chunk.at)
    c.in-None.ensures.steps.0 c.loop-chunk.invariant in
    written all (λ some. absurd (some refl))

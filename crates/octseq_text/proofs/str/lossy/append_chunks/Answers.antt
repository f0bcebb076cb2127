use Rattle.std.proofs.Common.{arith, ◌++◌, length, ap, ◌∙◌, subst, append_assoc}
use Rattle.std.proofs.Math.Nat.{le_refl}
use Rattle.std.proofs.lemmas.List.{append-nil}
use Rattle.std.proofs.lemmas.Result.{err_from_is_err_and}
use Rattle.octseq_core.specs.Limit.{ExceedsLimit}
use Rattle.octseq_utf8.specs.Chunk.{chunk_text, mark_of}
use Rattle.octseq_utf8.specs.Parts.{text_with}
use Rattle.octseq_utf8.specs.Reading.{parts_of}
use Rattle.octseq_utf8.proofs.Bridge.{encode-is}
use Rattle.octseq_utf8.proofs.ByChunk.{grown, all_made}
use Rattle.octseq_utf8.proofs.Splitting.{splits}
use Rattle.octseq_text.proofs.Replacing.{added, chunk_short, front_then, grown_short}
use Rattle.octseq_text.proofs.str.lossy.append_chunks.Goals as goal

pub returns-in_err-append_chunk-clause-short : goal.returns-in_err-append_chunk-clause-short
returns-in_err-append_chunk-clause-short g c =
    let p = err_from_is_err_and c.from_residual.result c.from_residual.ensures.1 in
    let mark = c.as_bytes-mark.ensures.value ∙ c.encode_utf8.ensures.value ∙ encode-is c.args.replacement in
    let content = g.B.AsOctets.content c.args.builder.now in
    let empty = ap (λ a. content ++ a.content) c.new-staged.ensures ∙ append-nil content in
    rw (p.1, p.2)
    (λ h. chunk_short g.B.AsOctets.limit c.args.replacement content c.args.first.valid c.args.first.invalid
    c.as_bytes-mark.result.now
    (text_with c.args.replacement (parts_of c.args.rest)) mark
    (subst (λ y. ExceedsLimit g.B.AsOctets.limit
    (length (y ++ (c.args.first.valid ++ mark_of c.as_bytes-mark.result.now c.args.first.invalid)))) empty
    (c.in_err-append_chunk.ensures.short h)))

pub loop-chunk-init : goal.loop-chunk-init
loop-chunk-init g c =
    let mark = c.as_bytes-mark.ensures.value ∙ c.encode_utf8.ensures.value ∙ encode-is c.args.replacement in
    let w = c.args.replacement in
    let content = g.B.AsOctets.content c.args.builder.now in
    let empty = ap (λ a. content ++ a.content) c.new-staged.ensures ∙ append-nil content in
    let later = text_with w (parts_of c.args.rest) in
    let made = g.B.AsOctets.content c.append_chunk.new.builder ++ c.append_chunk.new.staged.content in
    let first = c.in_ok-append_chunk.ensures.text
    ∙ ap (λ y. y ++ (c.args.first.valid ++ mark_of c.as_bytes-mark.result.now c.args.first.invalid)) empty in
    let one = added w content made c.args.first.valid c.args.first.invalid c.as_bytes-mark.result.now first mark in
    record {
      text = ap (λ y. y ++ later) one ∙ append_assoc content (chunk_text w c.args.first) later;
      front = c.in_ok-append_chunk.ensures.front;
      borrows = c.in_ok-append_chunk.ensures.borrows;
      turns = le_refl _;
      passed = omega arith;
      kept = le_refl _;
      octets = c.as_octets-octets.ensures;
    }

pub loop-chunk-preserved : goal.loop-chunk-preserved
loop-chunk-preserved g c =
    let mark = c.as_bytes-mark.ensures.value ∙ c.encode_utf8.ensures.value ∙ encode-is c.args.replacement in
    let w = c.args.replacement in
    let i = c.loop-chunk.invariant in
    let before = g.B.AsOctets.content c.loop-chunk.builder ++ c.loop-chunk.staged.content in
    let made = g.B.AsOctets.content c.append_chunk-in-Some.new.builder ++ c.append_chunk-in-Some.new.staged.content in
    let one = added w before made c.in-Some.chunk.valid c.in-Some.chunk.invalid c.as_bytes-mark.result.now
    c.in_ok-append_chunk-2.ensures.text mark in
    record {
      text = grown w c.loop-chunk.rest before _ _ c.in-Some.chunk c.next_counted.new.self i.text c.in-Some.ensures.gives
          one;
      front = front_then _ _ _ i.front c.in_ok-append_chunk-2.ensures.front;
      borrows = c.in_ok-append_chunk-2.ensures.borrows ∙ i.borrows;
      turns = omega (arith, c.in-Some.ensures.turns _ _ (splits _) (splits _));
      passed = omega arith;
      kept = omega arith;
      octets = c.as_octets-octets-in-Some.ensures;
    }

pub returns-in_err-append_chunk-2-clause-front : goal.returns-in_err-append_chunk-2-clause-front
returns-in_err-append_chunk-2-clause-front g c =
    let exit = c.from_residual-in_err-append_chunk-2 in
    let p = err_from_is_err_and exit.result exit.ensures.1 in
    rw p.1 (front_then _ _ _ c.loop-chunk.invariant.front c.in_err-append_chunk-2.ensures.front)

pub returns-in_err-append_chunk-2-clause-short : goal.returns-in_err-append_chunk-2-clause-short
returns-in_err-append_chunk-2-clause-short g c =
    let exit = c.from_residual-in_err-append_chunk-2 in
    let p = err_from_is_err_and exit.result exit.ensures.1 in
    let mark = c.as_bytes-mark.ensures.value ∙ c.encode_utf8.ensures.value ∙ encode-is c.args.replacement in
    rw (p.1, p.2)
    (λ h. grown_short g.B.AsOctets.limit c.args.replacement c.loop-chunk.rest (g.B.AsOctets.content c.loop-chunk.builder
    ++ c.loop-chunk.staged.content)
    (g.B.AsOctets.content c.args.builder.now
    ++ (chunk_text c.args.replacement c.args.first ++ text_with c.args.replacement (parts_of c.args.rest)))
    c.in-Some.chunk c.next_counted.new.self c.as_bytes-mark.result.now c.loop-chunk.invariant.text
    c.in-Some.ensures.gives mark
    (c.in_err-append_chunk-2.ensures.short h))

pub returns-in_err-append_chunk-2-clause-turns : goal.returns-in_err-append_chunk-2-clause-turns
returns-in_err-append_chunk-2-clause-turns g c =
    omega (arith, c.in-Some.ensures.turns _ _ (splits _) (splits _))

pub returns-clause-text : goal.returns-clause-text
returns-clause-text g c =
    let made = all_made c.args.replacement _ _ c.loop-chunk.rest c.loop-chunk.invariant.text
    c.in_default.ensures.gives.0 in
    rw (← made) c.append_stage.ensures.text

pub returns-clause-turns : goal.returns-clause-turns
returns-clause-turns g c =
    omega (arith, c.in_default.ensures.turns _ _ (splits _) (splits _))

use Rattle.std.proofs.Common.{rules, ◌≡◌, ◌≤◌, length, refl, arith, ap, sym, ◌∙◌}
use Rattle.std.proofs.lemmas.Result.{err_from_is_err_and}
use Rattle.octseq_utf8.specs.Encoding.{encoding_of}
use Rattle.octseq_utf8.proofs.Splitting.{splits}
use Rattle.octseq_text.proofs.Piecewise.{read_then, read_more, read_valid, read_chunk, read_invalid}
use Rattle.octseq_text.proofs.Piecewise.{read_to_end, too_long, beginning_few, not_so}
use Rattle.octseq_text.proofs.CharacterAppends.{within_appended}
use Rattle.octseq_text.proofs.str.pieces.settle.Goals as goal

pub returns-in_err-append_slice-clause-short : goal.returns-in_err-append_slice-clause-short
returns-in_err-append_slice-clause-short g c =
    let p = err_from_is_err_and c.from_residual.result c.from_residual.ensures.1 in
    rw (p.1, p.2)
    (λ h. too_long g.B.AsOctets.limit _ _ (c.as_bytes.ensures.value ∙ c.valid.ensures) c.loop-chunk.invariant.read
    (read_valid _ _ _ c.in-Some.ensures.gives _) (c.in_err-append_slice.ensures.appended.short.0 h))

-- the octets end within a character

pub open_end-requires : goal.open_end-requires
open_end-requires g c =
    let cut = sym c.is_incomplete.ensures ∙ c.if-is_incomplete.true in
    omega (
      arith,
      ap length c.invalid.ensures,
      beginning_few c.in-Some.chunk.invalid
          (c.in-Some.ensures.gives.cut.0 cut).0,
    )

pub returns-then-is_incomplete-clause-read : goal.returns-then-is_incomplete-clause-read
returns-then-is_incomplete-clause-read g c =
    let cut = sym c.is_incomplete.ensures ∙ c.if-is_incomplete.true in
    rw (c.open_end.ensures, c.invalid.ensures)
    (read_more _ _ _ _ c.loop-chunk.invariant.read c.in_ok-append_slice.ensures.appended.ok
    (c.as_bytes.ensures.value ∙ c.valid.ensures) (read_to_end _ _ _ c.in-Some.ensures.gives cut _))

-- a bad part follows the text

pub returns-in_err-append_replacement-clause-short : goal.returns-in_err-append_replacement-clause-short
returns-in_err-append_replacement-clause-short g c =
    let uncut = not_so _ c.is_incomplete.result c.is_incomplete.ensures c.if-is_incomplete.false in
    let some : 1 ≤ length c.in-Some.chunk.invalid = search rules in
    let valid = read_more _ _ _ _ c.loop-chunk.invariant.read c.in_ok-append_slice.ensures.appended.ok
    (c.as_bytes.ensures.value ∙ c.valid.ensures) (read_valid _ _ _ c.in-Some.ensures.gives _) in
    let p = err_from_is_err_and c.from_residual-in_err-append_replacement.result
    c.from_residual-in_err-append_replacement.ensures.1 in
    rw (p.1, p.2)
    (λ h. too_long g.B.AsOctets.limit (encoding_of 0xFFFD) (encoding_of 0xFFFD) refl valid
    (read_invalid _ _ _ c.in-Some.ensures.gives uncut some _) (c.in_err-append_replacement.ensures.short.0 h))

pub loop-chunk-preserved-in-Continue-branch-2 : goal.loop-chunk-preserved-in-Continue-branch-2
loop-chunk-preserved-in-Continue-branch-2 g c =
    let uncut = not_so _ c.is_incomplete.result c.is_incomplete.ensures c.if-is_incomplete.false in
    let some : 1 ≤ length c.in-Some.chunk.invalid = search rules in
    let valid = read_more _ _ _ _ c.loop-chunk.invariant.read c.in_ok-append_slice.ensures.appended.ok
    (c.as_bytes.ensures.value ∙ c.valid.ensures) (read_valid _ _ _ c.in-Some.ensures.gives _) in
    rw c.in_ok-append_replacement.ensures.ok
    (record {
      read = read_then valid (read_invalid _ _ _ c.in-Some.ensures.gives uncut some _);
      within = within_appended g.B.AsOctets.limit _ (g.B.AsOctets.content c.append_slice.new.self) (encoding_of 0xFFFD)
          refl (λ p. c.in_ok-append_replacement.ensures.short.1 p);
      turns = omega (arith, c.in-Some.ensures.turns _ _ (splits _) (splits _));
      passed = omega arith;
      kept = omega arith;
    })

-- no bad part follows the text

pub loop-chunk-preserved : goal.loop-chunk-preserved
loop-chunk-preserved g c =
    let none : length c.in-Some.chunk.invalid ≡ 0 = search rules in
    record {
      read = read_more _ _ _ _ c.loop-chunk.invariant.read c.in_ok-append_slice.ensures.appended.ok
          (c.as_bytes.ensures.value ∙ c.valid.ensures) (read_chunk _ _ _ c.in-Some.ensures.gives none _);
      within = within_appended g.B.AsOctets.limit _ (g.B.AsOctets.content c.loop-chunk.text) c.as_bytes.result.now
          c.in_ok-append_slice.ensures.appended.ok (λ p. c.in_ok-append_slice.ensures.appended.short.1 p);
      turns = omega (arith, c.in-Some.ensures.turns _ _ (splits _) (splits _));
      passed = omega arith;
      kept = omega arith;
    }

-- what must be shown after a refusal

pub returns-in_err-append_slice-clause-turns : goal.returns-in_err-append_slice-clause-turns
returns-in_err-append_slice-clause-turns g c =
    omega (arith, c.in-Some.ensures.turns _ _ (splits _) (splits _))

pub returns-in_err-append_replacement-clause-turns : goal.returns-in_err-append_replacement-clause-turns
returns-in_err-append_replacement-clause-turns g c =
    omega (arith, c.in-Some.ensures.turns _ _ (splits _) (splits _))

-- the rest of the clauses, if the octets end within a character

pub returns-then-is_incomplete-clause-turns : goal.returns-then-is_incomplete-clause-turns
returns-then-is_incomplete-clause-turns g c =
    omega (arith, c.in-Some.ensures.turns _ _ (splits _) (splits _))

-- and at the end

pub returns-clause-turns : goal.returns-clause-turns
returns-clause-turns g c =
    omega (arith, c.in_default.ensures.turns _ _ (splits _) (splits _))

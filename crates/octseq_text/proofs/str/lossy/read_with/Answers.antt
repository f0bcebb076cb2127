use Rattle.std.specs.Prelude.{◌==◌}
use Rattle.std.proofs.Common.{Bool, true, false, ℕ, ◌+◌, Option, List, ◌≡◌, [], ◌++◌, length, arith, ap, sym, ◌∙◌}
use Rattle.std.proofs.Common.{subst}
use Rattle.std.proofs.lemmas.Result.{err_from_is_err_and}
use Rattle.octseq_core.specs.Limit.{ExceedsLimit, IsWithin}
use Rattle.octseq_core.proofs.Limits.{within_not_past}
use Rattle.octseq_utf8.specs.Chunk.{Chunk, IsFirstChunk, chunk_text}
use Rattle.octseq_utf8.specs.Parts.{text_with}
use Rattle.octseq_utf8.specs.Reading.{parts_of}
use Rattle.octseq_utf8.specs.Text.{IsWellFormed}
use Rattle.octseq_utf8.proofs.Bridge.{from_scalar}
use Rattle.octseq_utf8.proofs.ByChunk.{whole_text, no_whole_text, text_at_chunk}
use Rattle.octseq_utf8.proofs.LossyTexts.{text_same, text_well_formed}
use Rattle.octseq_utf8.proofs.Splitting.{splits}
use Rattle.octseq_text.proofs.Piecewise.{none_of, some_of}
use Rattle.octseq_text.proofs.Replacing.{nothing_added}
use Rattle.octseq_text.proofs.str.lossy.read_with.Goals as goal

-- octets whose first chunk has a bad part are not well formed
is_bad : (x read after : List ℕ) (first : Chunk) (seen : List ℕ) (test : Bool) → read ≡ x
    → IsFirstChunk read first after
    → seen ≡ first.invalid → test ≡ (length seen == 0) → test ≡ false → ¬ IsWellFormed x
is_bad x read after first seen test same chunk e f t good =
    no_whole_text read first after chunk (some_of _ seen test e f t) (subst IsWellFormed (sym same) good)

-- octets whose first chunk has none are the text that is read
is_text : (w : ℕ) (x read after : List ℕ) (first : Chunk) (seen : List ℕ) (test : Bool) → read ≡ x
    → IsFirstChunk read first after → seen ≡ first.invalid → test ≡ (length seen == 0) → test ≡ true
    → text_with w (parts_of x) ≡ x
is_text w x read after first seen test same chunk e f t =
    text_same w x (parts_of x) (subst IsWellFormed same (whole_text read first after chunk (none_of _ seen test e f t)))
    (splits x)

-- the text of the first chunk followed by the text of what is after it is the text that is read
all_text : (w : ℕ) (x read after made : List ℕ) (first : Chunk) → read ≡ x → IsFirstChunk read first after
    → made ≡ [] → made ++ (chunk_text w first ++ text_with w (parts_of after)) ≡ text_with w (parts_of x)
all_text w x read after made first same chunk nothing =
    ap (λ y. y ++ (chunk_text w first ++ text_with w (parts_of after))) nothing
    ∙ sym (text_at_chunk w read first after chunk) ∙ ap (λ y. text_with w (parts_of y)) same

-- what is within a limit isn't past it
none_past : (limit : Option ℕ) (text made : List ℕ) → text ≡ made → IsWithin limit (length made)
    → ¬ ExceedsLimit limit (length text)
none_past limit text made same within past =
    within_not_past limit (length made) within (subst (λ y. ExceedsLimit limit (length y)) same past)

-- no octets

pub returns-in-None-clause-text : goal.returns-in-None-clause-text
returns-in-None-clause-text g c =
    let nothing = sym (c.chunks-chunks.ensures ∙ c.as_ref-content.ensures.value) ∙ c.in-None.ensures.gives.0 in
    rw c.from_utf8_unchecked.ensures (nothing ∙ nothing_added c.args.replacement [] _ nothing)

pub returns-in-None-clause-past : goal.returns-in-None-clause-past
returns-in-None-clause-past g c = λ past.
    let nothing = sym (c.chunks-chunks.ensures ∙ c.as_ref-content.ensures.value) ∙ c.in-None.ensures.gives.0 in
    let same = nothing ∙ nothing_added c.args.replacement [] _ nothing in
    absurd (none_past g.B.AsOctets.limit _ _ (sym same) c.as_ref-content.ensures.within past)

pub returns-in-None-clause-turns : goal.returns-in-None-clause-turns
returns-in-None-clause-turns g c =
    omega (
      arith,
      ap (λ y. length (parts_of y)) (c.chunks-chunks.ensures ∙ c.as_ref-content.ensures.value),
      c.in-None.ensures.turns _ _ (splits _) (splits _),
    )

-- no bad part

pub returns-then-is_empty-clause-text : goal.returns-then-is_empty-clause-text
returns-then-is_empty-clause-text g c =
    rw c.from_utf8_unchecked-then-is_empty.ensures
    (sym (is_text c.args.replacement _ _ _ c.in-Some.first c.invalid.result.now c.is_empty.result
    (c.chunks-chunks.ensures
    ∙ c.as_ref-content.ensures.value) c.in-Some.ensures.gives c.invalid.ensures c.is_empty.ensures
    c.if-is_empty.true))

pub returns-then-is_empty-clause-past : goal.returns-then-is_empty-clause-past
returns-then-is_empty-clause-past g c = λ past.
    let same = is_text c.args.replacement _ _ _ c.in-Some.first c.invalid.result.now c.is_empty.result
    (c.chunks-chunks.ensures
    ∙ c.as_ref-content.ensures.value) c.in-Some.ensures.gives c.invalid.ensures c.is_empty.ensures
    c.if-is_empty.true in
    absurd (none_past g.B.AsOctets.limit _ _ same c.as_ref-content.ensures.within past)

pub returns-then-is_empty-clause-turns : goal.returns-then-is_empty-clause-turns
returns-then-is_empty-clause-turns g c =
    omega (
      arith,
      ap (λ y. length (parts_of y)) (c.chunks-chunks.ensures ∙ c.as_ref-content.ensures.value),
      c.in-Some.ensures.turns _ _ (splits _) (splits _),
    )

-- a bad part, and no room for a builder

pub returns-in_err-made-in-Some-clause-same : goal.returns-in_err-made-in-Some-clause-same
returns-in_err-made-in-Some-clause-same g c = λ good.
    absurd (is_bad _ _ _ c.in-Some.first c.invalid.result.now c.is_empty.result
    (c.chunks-chunks.ensures ∙ c.as_ref-content.ensures.value)
    c.in-Some.ensures.gives c.invalid.ensures c.is_empty.ensures c.if-is_empty.false good)

pub returns-in_err-made-in-Some-clause-memory : goal.returns-in_err-made-in-Some-clause-memory
returns-in_err-made-in-Some-clause-memory g c = λ refused. (
  c.in_err-made-in-Some.ensures.memory,
  is_bad _ _ _ c.in-Some.first c.invalid.result.now c.is_empty.result
      (c.chunks-chunks.ensures ∙ c.as_ref-content.ensures.value)
      c.in-Some.ensures.gives c.invalid.ensures c.is_empty.ensures c.if-is_empty.false,
)

pub returns-in_err-made-in-Some-clause-turns : goal.returns-in_err-made-in-Some-clause-turns
returns-in_err-made-in-Some-clause-turns g c =
    omega (
      arith,
      ap (λ y. length (parts_of y)) (c.chunks-chunks.ensures ∙ c.as_ref-content.ensures.value),
      c.in-Some.ensures.turns _ _ (splits _) (splits _),
    )

-- a bad part, and no room for the text

pub returns-in_err-append_chunks-in-Some-clause-same : goal.returns-in_err-append_chunks-in-Some-clause-same
returns-in_err-append_chunks-in-Some-clause-same g c = λ good.
    absurd (is_bad _ _ _ c.in-Some.first c.invalid.result.now c.is_empty.result
    (c.chunks-chunks.ensures ∙ c.as_ref-content.ensures.value)
    c.in-Some.ensures.gives c.invalid.ensures c.is_empty.ensures c.if-is_empty.false good)

pub returns-in_err-append_chunks-in-Some-clause-short : goal.returns-in_err-append_chunks-in-Some-clause-short
returns-in_err-append_chunks-in-Some-clause-short g c =
    let exit = c.from_residual-in_err-append_chunks-in-Some in
    let p = err_from_is_err_and exit.result exit.ensures.1 in
    let text = all_text c.args.replacement _ _ _ _ c.in-Some.first
    (c.chunks-chunks.ensures ∙ c.as_ref-content.ensures.value) c.in-Some.ensures.gives
    c.in_ok-made-in-Some.ensures.ok in
    rw (p.1, p.2, ← text) c.in_err-append_chunks-in-Some.ensures.short

pub returns-in_err-append_chunks-in-Some-clause-memory : goal.returns-in_err-append_chunks-in-Some-clause-memory
returns-in_err-append_chunks-in-Some-clause-memory g c =
    let exit = c.from_residual-in_err-append_chunks-in-Some in
    let p = err_from_is_err_and exit.result exit.ensures.1 in
    let bad = is_bad _ _ _ c.in-Some.first c.invalid.result.now c.is_empty.result
    (c.chunks-chunks.ensures ∙ c.as_ref-content.ensures.value)
    c.in-Some.ensures.gives c.invalid.ensures c.is_empty.ensures c.if-is_empty.false in
    rw (p.1, p.2) (λ h. (c.in_err-append_chunks-in-Some.ensures.memory h, bad))

pub returns-in_err-append_chunks-in-Some-clause-turns : goal.returns-in_err-append_chunks-in-Some-clause-turns
returns-in_err-append_chunks-in-Some-clause-turns g c =
    omega (
      arith,
      ap (λ y. length (parts_of y)) (c.chunks-chunks.ensures ∙ c.as_ref-content.ensures.value),
      c.in-Some.ensures.turns _ _ (splits _) (splits _),
      c.in_err-append_chunks-in-Some.ensures.turns,
    )

-- a bad part, and room for the text

pub from_utf8_unchecked-requires-in-Some : goal.from_utf8_unchecked-requires-in-Some
from_utf8_unchecked-requires-in-Some g c =
    let text = all_text c.args.replacement _ _ _ _ c.in-Some.first
    (c.chunks-chunks.ensures ∙ c.as_ref-content.ensures.value) c.in-Some.ensures.gives
    c.in_ok-made-in-Some.ensures.ok in
    subst IsWellFormed (sym (c.in_ok-append_chunks-in-Some.ensures.text ∙ text))
    (text_well_formed c.args.replacement (from_scalar c.args.replacement c.ranges.replacement.0) (splits _))

pub returns-in_ok-append_chunks-in-Some-clause-text : goal.returns-in_ok-append_chunks-in-Some-clause-text
returns-in_ok-append_chunks-in-Some-clause-text g c =
    let text = all_text c.args.replacement _ _ _ _ c.in-Some.first
    (c.chunks-chunks.ensures ∙ c.as_ref-content.ensures.value) c.in-Some.ensures.gives
    c.in_ok-made-in-Some.ensures.ok in
    rw c.from_utf8_unchecked-in-Some.ensures (c.in_ok-append_chunks-in-Some.ensures.text ∙ text)

pub returns-in_ok-append_chunks-in-Some-clause-same : goal.returns-in_ok-append_chunks-in-Some-clause-same
returns-in_ok-append_chunks-in-Some-clause-same g c = λ good.
    absurd (is_bad _ _ _ c.in-Some.first c.invalid.result.now c.is_empty.result
    (c.chunks-chunks.ensures ∙ c.as_ref-content.ensures.value)
    c.in-Some.ensures.gives c.invalid.ensures c.is_empty.ensures c.if-is_empty.false good)

pub returns-in_ok-append_chunks-in-Some-clause-past : goal.returns-in_ok-append_chunks-in-Some-clause-past
returns-in_ok-append_chunks-in-Some-clause-past g c = λ past.
    let text = all_text c.args.replacement _ _ _ _ c.in-Some.first
    (c.chunks-chunks.ensures ∙ c.as_ref-content.ensures.value) c.in-Some.ensures.gives
    c.in_ok-made-in-Some.ensures.ok in
    absurd (none_past g.B.AsOctets.limit _ _ (sym (c.in_ok-append_chunks-in-Some.ensures.text ∙ text))
    c.in_ok-append_chunks-in-Some.ensures.within past)

pub returns-in_ok-append_chunks-in-Some-clause-turns : goal.returns-in_ok-append_chunks-in-Some-clause-turns
returns-in_ok-append_chunks-in-Some-clause-turns g c =
    omega (
      arith,
      ap (λ y. length (parts_of y)) (c.chunks-chunks.ensures ∙ c.as_ref-content.ensures.value),
      c.in-Some.ensures.turns _ _ (splits _) (splits _),
      c.in_ok-append_chunks-in-Some.ensures.turns,
    )

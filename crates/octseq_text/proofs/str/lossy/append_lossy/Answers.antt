use Rattle.std.proofs.Common.{◌∙◌, sym, subst}
use Rattle.octseq_utf8.specs.Chunk.{IsFirstChunk}
use Rattle.octseq_utf8.proofs.ByChunk.{text_at_chunk}
use Rattle.octseq_text.proofs.Replacing.{nothing_added}
use Rattle.octseq_text.proofs.str.lossy.append_lossy.Goals as goal

pub returns-in-None-clause-text : goal.returns-in-None-clause-text
returns-in-None-clause-text g c =
    nothing_added c.args.replacement _ _ (sym c.chunks-chunks.ensures ∙ c.in-None.ensures.gives.0)

pub returns-clause-text : goal.returns-clause-text
returns-clause-text g c =
    let whole = text_at_chunk c.args.replacement _ _ _
    (subst (λ y. IsFirstChunk y c.in-Some.first c.next_counted.new.self) c.chunks-chunks.ensures
    c.in-Some.ensures.gives) in
    rw whole c.append_chunks.ensures.text

pub returns-clause-short : goal.returns-clause-short
returns-clause-short g c =
    let whole = text_at_chunk c.args.replacement _ _ _
    (subst (λ y. IsFirstChunk y c.in-Some.first c.next_counted.new.self) c.chunks-chunks.ensures
    c.in-Some.ensures.gives) in
    rw whole c.append_chunks.ensures.short

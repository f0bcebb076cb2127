use Rattle.std.specs.Prelude.{unwrap_or}
use Rattle.std.proofs.Common.{length, take, arith, ap, sym, subst, ◌∙◌}
use Rattle.octseq_utf8.specs.Encoding.{IsEncoding}
use Rattle.octseq_utf8.specs.FirstPart.{IsBadFront}
use Rattle.octseq_utf8.specs.Parts.{IsBeginning}
use Rattle.octseq_text.proofs.Completions.{bad_at, encoding_at, open_at}
use Rattle.octseq_text.proofs.Piecewise.{beginning_few}
use Rattle.octseq_text.proofs.completion.complete.Goals as goal

pub join-joined-requires : goal.join-joined-requires
join-joined-requires c = let few = beginning_few c.args.begun.now c.requires in omega arith

pub overflow_sub-result : goal.overflow_sub-result
overflow_sub-result c =
    (encoding_at _ _ _ c.requires (c.as_slice.ensures.content ∙ c.join-joined.ensures) c.in-Encoding.len
    c.in-Encoding.ensures.part.0 c.in-Encoding.ensures.part.1).0

pub returns-in-Encoding-clause-completed : goal.returns-in-Encoding-clause-completed
returns-in-Encoding-clause-completed c =
    let found = encoding_at _ _ _ c.requires (c.as_slice.ensures.content ∙ c.join-joined.ensures) c.in-Encoding.len
    c.in-Encoding.ensures.part.0 c.in-Encoding.ensures.part.1 in
    let cut = c.truncate.ensures.content ∙ ap (take c.in-Encoding.len) (sym c.as_slice.ensures.content) in
    (found.1, cut ∙ found.2, subst IsEncoding (sym cut) c.in-Encoding.ensures.part.1)

pub returns-in-Bad-Some-clause-completed : goal.returns-in-Bad-Some-clause-completed
returns-in-Bad-Some-clause-completed c =
    let j = c.as_slice.result.now in
    let part = subst (λ size. IsBadFront j size (unwrap_or size (length j))) c.in-Bad-Some.field-0-is
    c.in-Bad-Some.ensures.part in
    let found = bad_at _ _ _ c.requires (c.as_slice.ensures.content ∙ c.join-joined.ensures) c.in-Bad-Some.len part in
    (found.1, found.2, found.3)

pub returns-in-Bad-None-clause-completed : goal.returns-in-Bad-None-clause-completed
returns-in-Bad-None-clause-completed c =
    let j = c.as_slice.result.now in
    let part = subst (λ size. IsBadFront j size (unwrap_or size (length j))) c.in-Bad-None.field-0-is
    c.in-Bad-None.ensures.part in
    let found = open_at _ _ _ c.requires (c.as_slice.ensures.content ∙ c.join-joined.ensures) part in
    (sym c.as_slice.ensures.content ∙ found.0, subst IsBeginning c.as_slice.ensures.content found.1)

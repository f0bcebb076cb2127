use Rattle.std.proofs.Common.{◌++◌, ◌∙◌, ap, refl}
use Rattle.octseq_c.proofs.Appended.{query_of}
use Rattle.octseq_c.proofs.edns.push_question.Goals as goal

pub returns-clause-content : goal.returns-clause-content
returns-clause-content c =
    let before = c.args.made.now.content in
    query_of _ _ _ refl (c.push.ensures.content ∙ ap (λ name. before ++ name) c.wire_of.ensures.wire)
    c.push_u16.ensures.content c.push_u16-2.ensures.content

use Rattle.std.proofs.Common.{◌++◌, ◌∙◌, ap}
use Rattle.octseq_c.proofs.Appended.{query_of}
use Rattle.octseq_c.proofs.write.query.Goals as goal

pub returns : goal.returns
returns c =
    query_of _ _ _ c.query_front-made.ensures.content
    (c.push.ensures.content ∙ ap (λ name. c.query_front-made.result.content ++ name) c.wire_of.ensures.wire)
    c.push_u16.ensures.content c.push_u16-2.ensures.content

use Rattle.std.proofs.Common.{ap, ◌∙◌, length, arith}
use Rattle.octseq_c.proofs.Puts.{copies}
use Rattle.octseq_c.proofs.answer.answer_within.Goals as goal

pub returns-in-Ok-clause-made : goal.returns-in-Ok-clause-made
returns-in-Ok-clause-made g c =
    let made = c.in-Ok.ensures.made in
    let content = c.as_slice.ensures.content ∙ made.2 in
    let size = c.as_slice.ensures.size in
    let put = c.put.ensures in (
      made.0,
      made.1,
      omega (arith, ap length c.as_slice.ensures.content, ap length content, size),
      copies content put.count put.ok put.no_room,
    )

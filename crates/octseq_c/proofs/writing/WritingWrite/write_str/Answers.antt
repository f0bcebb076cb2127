use Rattle.std.proofs.Common.{arith, take, ◌∙◌}
use Rattle.octseq_utf8.proofs.Bridge.{well_formed_from_utf8}
use Rattle.octseq_c.proofs.OwnText.{put_front, text_more}
use Rattle.octseq_c.proofs.writing.WritingWrite.write_str.Goals as goal

pub invariant_of-self-clause-text : goal.invariant_of-self-clause-text
invariant_of-self-clause-text g c =
    let writer = c.args.self.now in
    text_more (take writer.len writer.octets.now) c.args.s.now writer.text (well_formed_from_utf8 _ c.utf8.s)
    (put_front writer.octets.now _ c.args.s.now writer.len _
    (c.copy_from_slice.ensures.after ∙ c.as_bytes.ensures.value) (omega (arith, writer.within, writer.room)))

use Rattle.octseq_utf8.proofs.Masks.{loaded}
use Rattle.octseq_utf8.proofs.words.word_at.Goals as goal

pub returns-in-Some : goal.returns-in-Some
returns-in-Some c = loaded c.args.octets.now c.in-Some.four.now c.args.at c.from_le_bytes.result c.requires
    c.type_inv.octets (c.in-Some.ensures.cases).0 c.from_le_bytes.ensures

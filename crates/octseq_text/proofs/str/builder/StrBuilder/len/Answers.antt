use Rattle.std.proofs.Common.{length, ap, sym}
use Rattle.octseq_utf8.proofs.Texts.{octets_of-chars}
use Rattle.octseq_text.proofs.str.builder.StrBuilder.len.Goals as goal

pub returns-clause-characters : goal.returns-clause-characters
returns-clause-characters g c =
    rw (← c.as_slice.ensures.content)
    (sym (ap length (octets_of-chars c.as_slice.result.now c.as_slice.ensures.well_formed)))

use Rattle.octseq_utf8.proofs.Spelling.{chars_of, spells_nothing}
use Rattle.octseq_text.proofs.str.builder.StrBuilder.new.Goals as goal

pub returns-clause-characters : goal.returns-clause-characters
returns-clause-characters g c = rw c.in_ok-octets.ensures.ok (chars_of spells_nothing)

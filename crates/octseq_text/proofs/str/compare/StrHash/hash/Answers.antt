use Rattle.octseq_utf8.proofs.Bridge.{well_formed_from_utf8}
use Rattle.octseq_utf8.proofs.Texts.{octets_of-chars}
use Rattle.octseq_text.proofs.str.compare.StrHash.hash.Goals as goal

pub returns : goal.returns
returns g c = rw (← c.as_str.ensures, octets_of-chars c.as_str.result.now (well_formed_from_utf8 _ c.as_str.utf8))
    c.hash.ensures

use Rattle.octseq_dns_text.proofs.TypesShown.{type_word, types_shown}
use Rattle.octseq_dns_text.proofs.types.types_are_read_from_their_text.Goals as goal

pub returns : goal.returns
returns c = record { read = types_shown; words = type_word }

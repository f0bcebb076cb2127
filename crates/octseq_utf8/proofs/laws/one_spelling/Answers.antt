use Rattle.octseq_utf8.proofs.Spelling.{chars_of, octets_of_spelled}
use Rattle.octseq_utf8.proofs.laws.one_spelling.Goals as goal

pub returns : goal.returns
returns c =
    record { characters = λ octets characters s. chars_of s; octets = λ octets characters s. octets_of_spelled s }

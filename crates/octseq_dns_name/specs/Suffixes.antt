-- What contracts see of an iterator over the suffixes of a name.
use Rattle.std.specs.Prelude.{ℕ, List, [], Option, Some, None}
use Rattle.octseq.specs.declared.AsOctets.{Ghosts}
use Rattle.octseq_dns_name.specs.Read.{labels_of}
use Rattle.octseq_dns_name.specs.Relatives.{suffixes}
use Rattle.octseq_dns_name.specs.declared.name.ParsedName.{ParsedName}
use Rattle.octseq_dns_name.specs.declared.name.relatives.Suffixes.{Suffixes}

-- the labels of each suffix of a name, if there is a name
abbrev pub suffixes_from : {R : Type 0} {g : Ghosts R} → Option (ParsedName R g) → List (List (List ℕ))
suffixes_from None = []
suffixes_from (Some name) = suffixes (labels_of name)

-- the labels of each name that is left
abbrev pub suffixes_left : {R : Type 0} {g : Ghosts R} → Suffixes R g → List (List (List ℕ))
suffixes_left ahead = suffixes_from ahead.name

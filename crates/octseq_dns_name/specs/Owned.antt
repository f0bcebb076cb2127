-- What contracts see of a name that owns its octets.
use Rattle.std.specs.Prelude.{ℕ, List}
use Rattle.octseq.specs.declared.AsOctets.{Ghosts}
use Rattle.octseq_dns_name.specs.declared.name.owned.Name.{Name}

-- its labels
abbrev pub owned_labels : {B : Type 0} {g : Ghosts B} → Name B g → List (List ℕ)
owned_labels name = name.named.0

-- What contracts see of an iterator over the records of one type.
use Rattle.std.specs.Prelude.{List}
use Rattle.octseq.specs.declared.AsOctets.{Ghosts}
use Rattle.octseq_dns_message.specs.Entry.{Record}
use Rattle.octseq_dns_message.specs.OfType.{of_type}
use Rattle.octseq_dns_message.specs.Walk.{records_left}
use Rattle.octseq_dns_message.specs.declared.message.limited.RecordsOfType.{RecordsOfType}

-- the records that are left
abbrev pub limited_left : {R : Type 0} {g : Ghosts R} → RecordsOfType R g → List Record
limited_left walk = of_type walk.rtype (records_left walk.records)

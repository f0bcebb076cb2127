-- What contracts see of the iterator over the records of all sections.
use Rattle.std.specs.Prelude.{List, map}
use Rattle.std.specs.List.{zip}
use Rattle.octseq.specs.declared.AsOctets.{Ghosts}
use Rattle.octseq_dns_message.specs.Entry as said
use Rattle.octseq_dns_message.specs.Said.{record_of}
use Rattle.octseq_dns_message.specs.Section.{sections_in}
use Rattle.octseq_dns_message.specs.declared.message.record.Record.{Record}
use Rattle.octseq_dns_message.specs.declared.message.records.AllRecords.{AllRecords}
use Rattle.octseq_dns_message.specs.declared.message.records.Section.{Section}

-- the record that was read, with its section
abbrev pub listed_of : {R : Type 0} {g : Ghosts R} → Record R g × Section → said.Record × Section
listed_of listed = (record_of listed.0, listed.1)

-- the records that are left, each with its section
abbrev pub listed_left : {R : Type 0} {g : Ghosts R} → AllRecords R g → List (said.Record × Section)
listed_left walk = zip walk.ahead.0 (sections_in walk.left)

-- records without their sections
abbrev pub without_sections : List (said.Record × Section) → List said.Record
without_sections listed = map (λ one. one.0) listed

-- the records that are left
abbrev pub records_ahead : {R : Type 0} {g : Ghosts R} → AllRecords R g → List said.Record
records_ahead walk = without_sections (listed_left walk)

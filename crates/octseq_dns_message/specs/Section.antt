-- The sections of the records of a message: RFC 1035, 4.1.
use Rattle.std.specs.Prelude.{List, ◌++◌, map, replicate}
use Rattle.octseq_dns_message.specs.Entry.{Record}
use Rattle.octseq_dns_message.specs.declared.header.HeaderCounts.{HeaderCounts}
use Rattle.octseq_dns_message.specs.declared.message.records.Section.{Section}

-- the section of each record that a header counts, in their order
abbrev pub sections_in : HeaderCounts → List Section
sections_in counts = replicate counts.ancount Section.Answer
    ++ (replicate counts.nscount Section.Authority ++ replicate counts.arcount Section.Additional)

-- records of one section, each with the section
abbrev pub in_section : Section → List Record → List (Record × Section)
in_section section records = map (λ r. (r, section)) records

-- the answers, followed by the authority records and the additional ones, each with its section
abbrev pub in_sections : List Record → List Record → List Record → List (Record × Section)
in_sections answers authorities additionals = in_section Section.Answer answers
    ++ (in_section Section.Authority authorities ++ in_section Section.Additional additionals)

-- The records of one type.
use Rattle.std.specs.Prelude.{ℕ, ◌==◌, List, filter}
use Rattle.octseq_dns_message.specs.Entry.{Record}

-- the records of a type, in their order
abbrev pub of_type : ℕ → List Record → List Record
of_type rtype records = filter (λ r. r.rtype == rtype) records

-- What contracts see of the iterators over the sections of a message.
use Rattle.std.specs.Prelude.{List}
use Rattle.octseq.specs.declared.AsOctets.{Ghosts}
use Rattle.octseq_dns_message.specs.Entry.{Question, Record}
use Rattle.octseq_dns_message.specs.declared.message.walk.Questions.{Questions}
use Rattle.octseq_dns_message.specs.declared.message.walk.Records.{Records}

-- the questions that are left
abbrev pub questions_left : {R : Type 0} {g : Ghosts R} → Questions R g → List Question
questions_left walk = walk.ahead.0

-- the records that are left
abbrev pub records_left : {R : Type 0} {g : Ghosts R} → Records R g → List Record
records_left walk = walk.ahead.0

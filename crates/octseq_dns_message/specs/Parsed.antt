-- What contracts see of a message that was read.
use Rattle.std.specs.Prelude.{ℕ, ◌+◌, ◌/◌, ◌%◌, List, ◌++◌}
use Rattle.octseq.specs.declared.AsOctets.{Ghosts}
use Rattle.octseq_dns_message.specs.Entry.{Question, Record}
use Rattle.octseq_dns_message.specs.EntryTurns.{questions_turns, records_turns}
use Rattle.octseq_dns_message.specs.Flag.{flags_in}
use Rattle.octseq_dns_message.specs.declared.message.Message.{Message}
use Rattle.octseq_dns_message.specs.declared.header.Header.{Header}
use Rattle.octseq_dns_message.specs.declared.header.HeaderCounts.{HeaderCounts}
use Rattle.octseq_dns_message.specs.declared.header.Numbers.{Numbers}

-- the header with these numbers
abbrev pub fields_of : Numbers → Header
fields_of numbers = record {
  id = numbers.id;
  flags = flags_in numbers.bits;
  opcode = numbers.bits / 2048 % 16;
  rcode = numbers.bits % 16;
}

-- its header
abbrev pub header_of : {R : Type 0} {g : Ghosts R} → Message R g → Header
header_of message = fields_of message.header

-- the number of entries in each section, as the header counts them
abbrev pub counts_of : {R : Type 0} {g : Ghosts R} → Message R g → HeaderCounts
counts_of message = message.header.counts

-- its questions
abbrev pub questions_of : {R : Type 0} {g : Ghosts R} → Message R g → List Question
questions_of message = message.asked.0

-- its answers
abbrev pub answers_of : {R : Type 0} {g : Ghosts R} → Message R g → List Record
answers_of message = message.answered.0

-- its authority records
abbrev pub authorities_of : {R : Type 0} {g : Ghosts R} → Message R g → List Record
authorities_of message = message.authorized.0

-- its additional records
abbrev pub additionals_of : {R : Type 0} {g : Ghosts R} → Message R g → List Record
additionals_of message = message.added.0

-- the records of all three sections
abbrev pub records_of : {R : Type 0} {g : Ghosts R} → Message R g → List Record
records_of message = answers_of message ++ (authorities_of message ++ additionals_of message)

-- the least number of turns that its names take
abbrev pub message_turns : {R : Type 0} {g : Ghosts R} → Message R g → ℕ
message_turns message = questions_turns (questions_of message) + (records_turns (answers_of message)
    + (records_turns (authorities_of message) + records_turns (additionals_of message)))

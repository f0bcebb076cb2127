-- What contracts see of an entry that was read.
use Rattle.octseq.specs.declared.AsOctets.{Ghosts}
use Rattle.octseq.specs.Parser.{window}
use Rattle.octseq_dns_message.specs.Entry as said
use Rattle.octseq_dns_name.specs.Read.{name_of}
use Rattle.octseq_dns_message.specs.declared.message.question.Question.{Question}
use Rattle.octseq_dns_message.specs.declared.message.record.Record.{Record}

-- the question that was read
abbrev pub question_of : {R : Type 0} {g : Ghosts R} → Question R g → said.Question
question_of q = record { qname = name_of q.qname; qtype = q.qtype; qclass = q.qclass }

-- the record that was read
abbrev pub record_of : {R : Type 0} {g : Ghosts R} → Record R g → said.Record
record_of r = record { owner = name_of r.owner; rtype = r.rtype; class = r.class; ttl = r.ttl; rdata = window r.rdata }

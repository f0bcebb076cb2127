-- What is pushed to a message, with names that were read.
use Rattle.std.specs.Prelude.{ℕ, List}
use Rattle.octseq.specs.declared.AsOctets.{Ghosts}
use Rattle.octseq_dns_compress.specs.State.{Field}
use Rattle.octseq_dns_name.specs.Read.{labels_of}
use Rattle.octseq_dns_name.specs.declared.name.ParsedName.{ParsedName}
use Rattle.octseq_dns.specs.Contents.{Question, Record}

-- a question
abbrev pub pushed_question : {R : Type 0} {g : Ghosts R} → ParsedName R g → ℕ → ℕ → Question
pushed_question name qtype qclass = record { labels = labels_of name; qtype = qtype; qclass = qclass }

-- a record
abbrev pub pushed_record : {R : Type 0} {g : Ghosts R} → ParsedName R g → ℕ → ℕ → ℕ → List Field → Record
pushed_record owner rtype class ttl fields = record {
  labels = labels_of owner;
  rtype = rtype;
  class = class;
  ttl = ttl;
  fields = fields;
}

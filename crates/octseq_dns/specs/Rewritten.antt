-- A message that was read, as one that is written.
use Rattle.std.specs.Prelude.{◌≡◌, ℕ, Bool, Option, None, List, length, map, nat_eq}
use Rattle.std.specs.List.{AllZip, list_any}
use Rattle.octseq_dns_data.specs.Data.{ParsedRdata}
use Rattle.octseq_dns_data.specs.Rtype as types
use Rattle.octseq_dns_message.specs.RecordData.{IsDataOf}
use Rattle.octseq_dns_message.specs.Entry as entry
use Rattle.octseq_dns_message.specs.Parsed.{header_of, questions_of, answers_of, authorities_of, additionals_of}
use Rattle.octseq_dns_message.specs.Parsed.{records_of}
use Rattle.octseq_dns_message.specs.declared.message.Message.{Message as Parsed}
use Rattle.octseq_dns_message.specs.declared.header.Header.{Header}
use Rattle.octseq.specs.Limit.{IsWithin}
use Rattle.octseq.specs.Refusal.{Refusal}
use Rattle.octseq.specs.declared.AsOctets.{Ghosts}
use Rattle.octseq_dns.specs.declared.rewriting.RewriteError.{RewriteError}
use Rattle.octseq_dns.specs.Contents.{Question, Record, Message}
use Rattle.octseq_dns.specs.Rdata.{bare_rdata, rdata_fields}
use Rattle.octseq_dns.specs.ReadBack.{bare}
use Rattle.octseq_dns.specs.Writes.{Building, ComposesMessage}

-- the record that is written for one that was read with this data
abbrev pub record_of_parsed : entry.Record → ParsedRdata → Record
record_of_parsed r parsed = record {
  labels = r.owner.labels;
  rtype = r.rtype;
  class = r.class;
  ttl = r.ttl;
  fields = rdata_fields (bare_rdata parsed);
}

-- a question is the one that is written for one that was read
abbrev pub IsQuestionOf : entry.Question → Question → Type 0
IsQuestionOf q written = written ≡ bare q

-- A record is the one that is written for one that was read, given its data.
pub record IsRecordOf (r : entry.Record) (written : Record) : Type 0 where
  pub parsed : ParsedRdata
  pub data_is : IsDataOf r parsed
  pub is : written ≡ record_of_parsed r parsed

-- A message has the header, the questions and the records of one that was read.
pub record IsMessageOf (header : Header) (questions : List entry.Question)
    (answers authorities additionals : List entry.Record) (m : Message) : Type 0 where
  pub header_is : m.header ≡ header
  pub questions_are : m.questions ≡ map bare questions
  pub answers_are : AllZip IsRecordOf answers m.answers
  pub authorities_are : AllZip IsRecordOf authorities m.authorities
  pub additionals_are : AllZip IsRecordOf additionals m.additionals

-- the same for a message that was read, as contracts see it
abbrev pub IsContentsOf : {R : Type 0} {g : Ghosts R} → Parsed R g → Message → Type 0
IsContentsOf parsed m = IsMessageOf (header_of parsed) (questions_of parsed) (answers_of parsed)
    (authorities_of parsed) (additionals_of parsed) m

-- whether one of the records is of type OPT
abbrev pub any_opt : List entry.Record → Bool
any_opt records = list_any (λ (r : entry.Record). nat_eq r.rtype types.opt) records

-- A message that was read was rewritten into a builder, within a limit. No push limit is set.
pub record IsRewritten {R B T : Type 0} {g : Ghosts R} (most : ℕ) (limit : Option ℕ) (source : Parsed R g)
    (b : Building B T) : Type 0 where
  pub written : (m : Message) → IsContentsOf source m → ComposesMessage most m b.state b.header b.counts
  pub contents : (m : Message) × IsContentsOf source m
  pub fits : IsWithin limit (length b.state.octets)
  pub push_limit : b.push_limit ≡ None
  pub has_opt : b.has_opt ≡ any_opt (records_of source)

-- why a message wasn't rewritten
abbrev pub rewrite_error : RewriteError → Refusal
rewrite_error RewriteError.Immovable = Refusal.malformed
rewrite_error (RewriteError.Short e) = Refusal.short
rewrite_error RewriteError.Memory = Refusal.memory

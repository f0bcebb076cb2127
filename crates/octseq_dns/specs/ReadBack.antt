-- Reading a message that was written.
use Rattle.std.specs.Prelude.{◌≡◌, ℕ, List, map}
use Rattle.std.specs.List.{AllZip}
use Rattle.octseq.specs.Window.{Window, at}
use Rattle.octseq_dns_compress.specs.Fields.{AreFields}
use Rattle.octseq_dns_compress.specs.State.{Field}
use Rattle.octseq_dns_message.specs.Entry as entry
use Rattle.octseq_dns_message.specs.Message.{IsMessage}
use Rattle.octseq_dns.specs.Contents.{Question, Record, Message}

-- a question without its place
abbrev pub bare : entry.Question → Question
bare q = record { labels = q.qname.labels; qtype = q.qtype; qclass = q.qclass }

-- The data of a record is these fields, and nothing else. They are in the same message as its owner name, so names may
-- have pointers.
pub record HasFields (r : entry.Record) (fields : List Field) : Type 0 where
  pub in_message : r.rdata.octets ≡ r.owner.place.octets
  pub end : Window
  pub fields_are : AreFields (at r.rdata.position r.owner.place) fields end
  pub ends : end.position ≡ r.rdata.end

-- A record that was read is one that was written.
pub record IsAsWritten (r : entry.Record) (written : Record) : Type 0 where
  pub labels : r.owner.labels ≡ written.labels
  pub rtype : r.rtype ≡ written.rtype
  pub class : r.class ≡ written.class
  pub ttl : r.ttl ≡ written.ttl
  pub data_is : HasFields r written.fields

-- Octets are a message with this header, and its questions and records are those that were written, in their order.
pub record ReadsBack (octets : List ℕ) (m : Message) : Type 0 where
  pub questions : List entry.Question
  pub answers : List entry.Record
  pub authorities : List entry.Record
  pub additionals : List entry.Record
  pub message : IsMessage octets m.header questions answers authorities additionals
  pub questions_are : map bare questions ≡ m.questions
  pub answers_are : AllZip IsAsWritten answers m.answers
  pub authorities_are : AllZip IsAsWritten authorities m.authorities
  pub additionals_are : AllZip IsAsWritten additionals m.additionals

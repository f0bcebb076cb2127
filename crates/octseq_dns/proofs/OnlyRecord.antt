-- What is written for an entry that was read, and that it is the only thing.
use Rattle.std.proofs.Common.{◌≡◌, ℕ, refl, sym, ap, ◌∙◌}
use Rattle.octseq_dns_data.specs.Data.{ParsedRdata}
use Rattle.octseq_dns_message.specs.RecordData.{IsDataOf}
use Rattle.octseq_dns_message.specs.Entry as entry
use Rattle.octseq_dns_message.proofs.RecordData.{one_said, said_rtype}
use Rattle.octseq_dns_name.specs.Name.{Name}
use Rattle.octseq_dns.specs.Contents.{Question, Record}
use Rattle.octseq_dns.specs.Rdata.{bare_rdata, rdata_fields, rtype_of}
use Rattle.octseq_dns.specs.Rewritten.{IsQuestionOf, IsRecordOf, record_of_parsed}
use Rattle.octseq_dns.proofs.RdataRead.{bare_rtype}

pub same_question : {name other : Name} {qtype t qclass c : ℕ} → name ≡ other → qtype ≡ t → qclass ≡ c
    → ◌≡◌ {A = Question} (record { labels = name.labels; qtype = qtype; qclass = qclass })
    (record { labels = other.labels; qtype = t; qclass = c })
same_question names qtypes qclasses =
    λ i. record { labels = (names i).labels; qtype = qtypes i; qclass = qclasses i }

pub single_question : (q : entry.Question) (x y : Question) → IsQuestionOf q x → IsQuestionOf q y → x ≡ y
single_question q x y is other = is ∙ sym other

pub record_is : {name : Name} {class ttl : ℕ} {r : entry.Record} {parsed : ParsedRdata} → name ≡ r.owner
    → class ≡ r.class → ttl ≡ r.ttl → IsDataOf r parsed → IsRecordOf r (record {
      labels = name.labels;
      rtype = rtype_of (bare_rdata parsed);
      class = class;
      ttl = ttl;
      fields = rdata_fields (bare_rdata parsed);
    })
record_is {r = r} {parsed = parsed} names classes ttls is = record {
  parsed = parsed;
  data_is = is;
  is = λ i. record {
    labels = (names i).labels;
    rtype = (bare_rtype parsed ∙ said_rtype r parsed is) i;
    class = classes i;
    ttl = ttls i;
    fields = rdata_fields (bare_rdata parsed);
  };
}

pub single_record : (r : entry.Record) (x y : Record) → IsRecordOf r x → IsRecordOf r y → x ≡ y
single_record r x y is other =
    is.is ∙ ap (record_of_parsed r) (one_said r is.parsed other.parsed is.data_is other.data_is) ∙ sym other.is

use Rattle.std.proofs.Common.{refl}
use Rattle.octseq.specs.Parser.{window}
use Rattle.octseq_dns_message.specs.Entry.{IsAfterName}
use Rattle.octseq_dns_name.specs.Read.{labels_of}
use Rattle.octseq_dns_message.proofs.Formats.{none_after_name}
use Rattle.octseq_dns_message.proofs.message.question.Question.parse_counted.Goals as goal

pub returns-in_err-qname-clause-malformed : goal.returns-in_err-qname-clause-malformed
returns-in_err-qname-clause-malformed g c = λ _ q v is.
    c.in_err-qname.ensures.malformed refl q.qname.labels is.0 is.1.1

pub returns-in_err-qtype-clause-malformed : goal.returns-in_err-qtype-clause-malformed
returns-in_err-qtype-clause-malformed g c = λ _ q v is.
    none_after_name IsAfterName (window c.args.parser.now) (window c.parse_counted.new.parser)
    (labels_of c.in_ok-qname.qname) c.in_ok-qname.ensures.name (c.in_err-qtype.ensures.malformed refl)
    (q.qname, (q.qtype, q.qclass)) v is

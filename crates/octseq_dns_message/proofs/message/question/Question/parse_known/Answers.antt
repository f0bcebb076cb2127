use Rattle.std.proofs.Math.Logic.{∥∥₁_prop, ∥∥₁_elim}
use Rattle.octseq.specs.Parser.{window}
use Rattle.octseq_dns_message.specs.Entry.{IsAfterName}
use Rattle.octseq_dns_message.specs.OneEntry.{question_parts}
use Rattle.octseq_dns_name.proofs.Known.{ok_unless}
use Rattle.octseq_dns_name.specs.Read.{labels_of}
use Rattle.octseq_dns_message.proofs.Known.{known_name, known_after}
use Rattle.octseq_dns_message.proofs.message.question.Question.parse_known.Goals as goal

pub parse_known-qname-requires : goal.parse_known-qname-requires
parse_known-qname-requires g c = known_name question_parts IsAfterName (window c.args.parser.now) c.requires

pub infallible-qtype-requires : goal.infallible-qtype-requires
infallible-qtype-requires g c = ok_unless c.parse_after_name.result (λ refused.
    known_after question_parts IsAfterName (window c.args.parser.now) (window c.parse_known-qname.new.parser)
    (labels_of c.parse_known-qname.result) c.requires c.parse_known-qname.ensures.name
    (c.parse_after_name.ensures.malformed refused))

pub returns : goal.returns
returns g c =
    let after = rw c.infallible-qtype.ensures at c.parse_after_name.ensures.value in
    record {
      question = ∥∥₁_elim c.parse_known-qname.ensures.name ∥∥₁_prop
          (λ name. ∣ (window c.parse_known-qname.new.parser, (c.parse_known-qname.ensures.place, name), after) ∣₁);
    }

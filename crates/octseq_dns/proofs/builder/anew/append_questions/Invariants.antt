-- What is written for the questions so far was appended.
use Rattle.std.proofs.Common.{◌≡◌, ◌≤◌, length}
use Rattle.octseq.specs.Limit.{IsWithin}
use Rattle.octseq_dns_compress.specs.Composed.{message_limit}
use Rattle.octseq_dns_message.specs.Parsed.{questions_of}
use Rattle.octseq_dns_message.specs.Walk.{questions_left}
use Rattle.octseq_dns.specs.Contents.{FitsQuestion, question_entry}
use Rattle.octseq_dns.specs.Labels.{question_labels}
use Rattle.octseq_dns.specs.Rewritten.{IsQuestionOf}
use Rattle.octseq_dns.proofs.Onward.{Onward}
use Rattle.octseq_dns.proofs.builder.anew.append_questions.Given as goal

abbrev pub invariant-loop-question : goal.invariant-loop-question
invariant-loop-question g l = record {
  on : Onward IsQuestionOf question_entry question_labels FitsQuestion g.T.Compressor.most (questions_of l.fn.source)
      (questions_left l.question-iterator) l.fn.message.state l.message.state l.fn.turns l.turns;
  within : IsWithin (message_limit g.B.AsOctets.limit) (length l.fn.message.state.octets)
      → IsWithin (message_limit g.B.AsOctets.limit) (length l.message.state.octets);
  counted : l.fn.turns ≤ l.turns;
  borrows : g.B.AsOctets.borrows l.message.octets ≡ g.B.AsOctets.borrows l.fn.message.octets;
}

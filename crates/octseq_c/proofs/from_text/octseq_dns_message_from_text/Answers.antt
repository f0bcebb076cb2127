use Rattle.std.proofs.Common.{Err, ap, ◌∙◌, arith, inl, inr}
use Rattle.octseq_c.proofs.Puts.{puts_copied, puts_none}
use Rattle.octseq_c.proofs.TextRecords.{one_text_wire}
use Rattle.octseq_c.proofs.from_text.octseq_dns_message_from_text.Goals as goal

pub returns-in-Ok-clause-puts : goal.returns-in-Ok-clause-puts
returns-in-Ok-clause-puts c =
    let (m, is, written) = c.in-Ok.ensures.ok in
    let octets = ap (λ s. s.octets) written.state_is in
    puts_copied (one_text_wire c.args.text.now) c.as_slice.result.now (record {
      message = m;
      is = is;
      made_is = c.as_slice.ensures ∙ octets;
    }) c.put.ensures.count c.put.ensures.ok c.put.ensures.no_room

pub returns-in-Err-Malformed-clause-puts : goal.returns-in-Err-Malformed-clause-puts
returns-in-Err-Malformed-clause-puts c = puts_none 2 (omega arith) (one_text_wire c.args.text.now)

pub returns-in-Err-Short-clause-puts : goal.returns-in-Err-Short-clause-puts
returns-in-Err-Short-clause-puts c = puts_none 5 (omega arith) (one_text_wire c.args.text.now)

pub returns-in-Err-Memory-clause-puts : goal.returns-in-Err-Memory-clause-puts
returns-in-Err-Memory-clause-puts c = puts_none 9 (omega arith) (one_text_wire c.args.text.now)

-- neither the buffer nor the table requests memory
pub returns-in-Err-Memory-clause-memory : goal.returns-in-Err-Memory-clause-memory
returns-in-Err-Memory-clause-memory c = λ e. elim (c.in-Err-Memory.ensures.memory (ap Err c.in-Err-Memory.field-0-is)) [
  | inl asks ↦ absurd (cc)
  | inr others ↦ elim others [
    | inl asks ↦ absurd (cc)
    | inr list ↦ list
  ]
]

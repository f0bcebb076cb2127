use Rattle.std.proofs.Common.{◌∙◌, arith}
use Rattle.octseq_dns_name.specs.Read.{labels_of}
use Rattle.octseq_c.proofs.OneTexts.{one_name_wire}
use Rattle.octseq_c.proofs.Puts.{puts_copied, puts_none}
use Rattle.octseq_c.proofs.names.octseq_dns_name_wire.Goals as goal

pub returns-in-Ok-clause-puts : goal.returns-in-Ok-clause-puts
returns-in-Ok-clause-puts c =
    let made = c.as_slice.ensures.content ∙ c.wire_of.ensures in
    puts_copied (one_name_wire c.args.octets.now c.args.offset)
    c.as_slice.result.now (labels_of c.in-Ok.name, c.in-Ok.ensures.name, made) c.put.ensures.count c.put.ensures.ok
    c.put.ensures.no_room

pub returns-in-Err-clause-puts : goal.returns-in-Err-clause-puts
returns-in-Err-clause-puts c = puts_none 2 (omega arith) (one_name_wire c.args.octets.now c.args.offset)

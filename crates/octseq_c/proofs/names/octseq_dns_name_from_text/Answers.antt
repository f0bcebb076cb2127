use Rattle.octseq_dns_name.specs.Owned.{owned_labels}
use Rattle.octseq_c.proofs.OneTexts.{one_spelled_wire}
use Rattle.octseq_c.proofs.Puts.{puts_copied}
use Rattle.octseq_c.proofs.names.octseq_dns_name_from_text.Goals as goal

pub returns-in-Some-clause-puts : goal.returns-in-Some-clause-puts
returns-in-Some-clause-puts c =
    puts_copied (one_spelled_wire c.args.text.now) c.as_slice.result.now
    (owned_labels c.in-Some.name, c.in-Some.ensures.some, c.as_slice.ensures) c.put.ensures.count c.put.ensures.ok
    c.put.ensures.no_room

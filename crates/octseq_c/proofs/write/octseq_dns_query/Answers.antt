use Rattle.std.proofs.Common.{◌∙◌}
use Rattle.octseq_dns_name.specs.Owned.{owned_labels}
use Rattle.octseq_c.proofs.OneTexts.{one_query}
use Rattle.octseq_c.proofs.Puts.{puts_copied}
use Rattle.octseq_c.proofs.write.octseq_dns_query.Goals as goal

pub returns-in-Some-clause-puts : goal.returns-in-Some-clause-puts
returns-in-Some-clause-puts c =
    puts_copied (one_query c.args.id c.args.flags c.args.name.now c.args.qtype c.args.qclass) c.as_slice.result.now
    (record {
      labels = owned_labels c.in-Some.name;
      spelled = c.in-Some.ensures.some;
      made_is = c.as_slice.ensures.content ∙ c.query-made.ensures;
    }) c.put.ensures.count c.put.ensures.ok c.put.ensures.no_room

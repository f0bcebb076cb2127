use Rattle.octseq_bgp.proofs.UpdateParts.{attributes_more}
use Rattle.octseq_bgp.proofs.message.update_builder.octets.UpdateOctets.append_attribute.Goals as goal

pub push-requires-clause-arranges : goal.push-requires-clause-arranges
push-requires-clause-arranges g c = rw c.len.ensures (_, _, _, attributes_more _ _ _ _ c.requires.announced)

pub returns-clause-puts : goal.returns-clause-puts
returns-clause-puts g c =
    (rw c.len.ensures at c.push.ensures.puts) _ _ _ (attributes_more _ _ _ _ c.requires.announced)

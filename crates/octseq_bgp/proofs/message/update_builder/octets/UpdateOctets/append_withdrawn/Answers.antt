use Rattle.octseq_bgp.proofs.UpdateParts.{withdrawn_more}
use Rattle.octseq_bgp.proofs.message.update_builder.octets.UpdateOctets.append_withdrawn.Goals as goal

pub push-requires-clause-arranges : goal.push-requires-clause-arranges
push-requires-clause-arranges g c = (_, _, _, withdrawn_more _ _ _ c.args.slice.now c.withdrawn_len-at.ensures)

pub returns-clause-puts : goal.returns-clause-puts
returns-clause-puts g c = c.push.ensures.puts _ _ _ (withdrawn_more _ _ _ c.args.slice.now c.withdrawn_len-at.ensures)

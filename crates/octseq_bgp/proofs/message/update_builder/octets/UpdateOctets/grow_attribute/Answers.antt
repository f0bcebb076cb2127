use Rattle.std.proofs.lemmas.List.{take_rest}
use Rattle.octseq_bgp.proofs.UpdateParts.{attribute_grown}
use Rattle.octseq_bgp.proofs.message.update_builder.octets.UpdateOctets.grow_attribute.Goals as goal

pub push-requires-clause-arranges : goal.push-requires-clause-arranges
push-requires-clause-arranges g c = rw (c.len.ensures, take_rest c.args.head.now c.args.old) (
  _,
  _,
  _,
  attribute_grown _ _ _ c.args.head.now c.args.more.now c.args.at c.args.old
      c.withdrawn_len.ensures c.requires.announced c.requires.inside c.requires.head,
)

pub returns-clause-puts : goal.returns-clause-puts
returns-clause-puts g c =
    (rw (c.len.ensures, take_rest c.args.head.now c.args.old) at c.push.ensures.puts) _ _ _
    (attribute_grown _ _ _ c.args.head.now c.args.more.now c.args.at c.args.old
    c.withdrawn_len.ensures c.requires.announced c.requires.inside c.requires.head)

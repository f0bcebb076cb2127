use Rattle.octseq_bgp.proofs.laws.misframed_begins_none.Goals as goal

pub returns : goal.returns
returns c = c.misframed_begins_none.ensures

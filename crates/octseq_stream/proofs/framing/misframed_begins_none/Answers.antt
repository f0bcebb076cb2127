use Rattle.octseq_stream.proofs.framing.misframed_begins_none.Goals as goal

pub returns : goal.returns
returns g c = g.met.F.Framing.begins_none

use Rattle.octseq_format.proofs.laws.one_reading.Goals as goal

pub returns : goal.returns
returns g c = g.F.Format.one.same

use Rattle.octseq_stream.proofs.Streams.{apart}
use Rattle.octseq_stream.proofs.framing.frames_are_apart.Goals as goal

pub returns : goal.returns
returns g c = λ f. apart g.F.Framing.header (g.F.Framing.fits f) (g.F.Framing.code f) (g.F.Framing.size f)
    (g.met.F.Framing.whole f) (g.met.F.Framing.one f)

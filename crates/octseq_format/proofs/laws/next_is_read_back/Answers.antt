use Rattle.std.proofs.Common.{refl}
use Rattle.octseq_format.proofs.laws.next_is_read_back.Goals as goal

pub returns : goal.returns
returns g c = λ w said more fits is.
    let taken = (g.met.F.Format.delimited refl).next w said more fits is in
    (taken.it, taken.tells, taken.is)

use Rattle.octseq_format.proofs.Wholes.{whole_taken}
use Rattle.octseq_format.proofs.laws.whole_is_read_back.Goals as goal

pub returns : goal.returns
returns g c = λ said fits.
    let taken = whole_taken g.met.F.Format.read_back said fits in
    (taken.it, taken.tells, taken.is)

use Rattle.octseq_format.proofs.Lens.{all_have_both}
use Rattle.octseq_format.proofs.tuples.Tuple2Format.fixed_len.Goals as goal

pub returns : goal.returns
returns g c =
    let a = g.A.Format in
    let b = g.B.Format in
    all_have_both a.octets b.octets a.fits b.fits c.fixed_len.result c.fixed_len-2.result c.both_len.result
    c.fixed_len.ensures c.fixed_len-2.ensures c.both_len.ensures

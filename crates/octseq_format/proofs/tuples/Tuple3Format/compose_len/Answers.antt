use Rattle.octseq_format.specs.Pair.{both_say}
use Rattle.octseq_format.proofs.Lens.{HasLen, has_len, len_some, len_fit, len_none, both_has_len}
use Rattle.octseq_format.specs.Pair.{◌before◌, ◌also◌}
use Rattle.octseq_format.proofs.tuples.Tuple3Format.compose_len.Goals as goal

pub returns : goal.returns
unfolding both_say
returns g c =
    let v = c.args.value.now in
    let fa = g.A.Format in
    let sa = fa.says (fa.found v.0) in
    let na = c.compose_len-2.ensures in
    let fb = g.B.Format in
    let sb = fb.says (fb.found v.1) in
    let nb = c.compose_len.ensures in
    let fc = g.C.Format in
    let sc = fc.says (fc.found v.2) in
    let nc = c.compose_len-from_c.ensures in
    let hb = both_has_len fb.octets (fc.octets) fb.fits (fc.fits) (sb, sc) _ _ _
    (has_len fb.octets fb.fits sb _ nb.some nb.fit nb.none)
    (has_len fc.octets fc.fits sc _ nc.some nc.fit nc.none) c.both_len-from_b.ensures in
    let ha = both_has_len fa.octets (fb.octets before fc.octets) fa.fits (fb.fits also fc.fits) (sa, (sb, sc)) _ _ _
    (has_len fa.octets fa.fits sa _ na.some na.fit na.none)
    hb c.both_len.ensures in
    record { some = len_some _ _ _ _ ha; fit = len_fit _ _ _ _ ha; none = len_none _ _ _ _ ha }

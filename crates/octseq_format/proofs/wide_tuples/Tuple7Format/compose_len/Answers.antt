use Rattle.octseq_format.specs.Pair.{both_say}
use Rattle.octseq_format.proofs.Lens.{HasLen, has_len, len_some, len_fit, len_none, both_has_len}
use Rattle.octseq_format.specs.Pair.{◌before◌, ◌also◌}
use Rattle.octseq_format.proofs.wide_tuples.Tuple7Format.compose_len.Goals as goal

pub returns : goal.returns
unfolding both_say
returns g c =
    let v = c.args.value.now in
    let fa = g.A.Format in
    let sa = fa.says (fa.found v.0) in
    let na = c.compose_len-6.ensures in
    let fb = g.B.Format in
    let sb = fb.says (fb.found v.1) in
    let nb = c.compose_len-5.ensures in
    let fc = g.C.Format in
    let sc = fc.says (fc.found v.2) in
    let nc = c.compose_len-4.ensures in
    let fd = g.D.Format in
    let sd = fd.says (fd.found v.3) in
    let nd = c.compose_len-3.ensures in
    let fe = g.E.Format in
    let se = fe.says (fe.found v.4) in
    let ne = c.compose_len-2.ensures in
    let ff = g.F.Format in
    let sf = ff.says (ff.found v.5) in
    let nf = c.compose_len.ensures in
    let fg = g.G.Format in
    let sg = fg.says (fg.found v.6) in
    let ng = c.compose_len-from_g.ensures in
    let hf = both_has_len ff.octets (fg.octets) ff.fits (fg.fits) (sf, sg) _ _ _
    (has_len ff.octets ff.fits sf _ nf.some nf.fit nf.none)
    (has_len fg.octets fg.fits sg _ ng.some ng.fit ng.none) c.both_len-from_f.ensures in
    let he = both_has_len fe.octets (ff.octets before fg.octets) fe.fits (ff.fits also fg.fits) (se, (sf, sg)) _ _ _
    (has_len fe.octets fe.fits se _ ne.some ne.fit ne.none)
    hf c.both_len-from_e.ensures in
    let hd = both_has_len fd.octets (fe.octets before ff.octets before fg.octets) fd.fits
    (fe.fits also ff.fits also fg.fits) (sd, (se, (sf, sg))) _ _ _
    (has_len fd.octets fd.fits sd _ nd.some nd.fit nd.none)
    he c.both_len-from_d.ensures in
    let hc = both_has_len fc.octets (fd.octets before fe.octets before ff.octets before fg.octets) fc.fits
    (fd.fits also fe.fits also ff.fits also fg.fits) (sc, (sd, (se, (sf, sg)))) _ _ _
    (has_len fc.octets fc.fits sc _ nc.some nc.fit nc.none)
    hd c.both_len-from_c.ensures in
    let hb = both_has_len fb.octets
    (fc.octets before fd.octets before fe.octets before ff.octets before fg.octets) fb.fits
    (fc.fits also fd.fits also fe.fits also ff.fits also fg.fits) (sb, (sc, (sd, (se, (sf, sg))))) _ _ _
    (has_len fb.octets fb.fits sb _ nb.some nb.fit nb.none)
    hc c.both_len-from_b.ensures in
    let ha = both_has_len fa.octets
    (fb.octets before fc.octets before fd.octets before fe.octets before ff.octets before fg.octets) fa.fits
    (fb.fits also fc.fits also fd.fits also fe.fits also ff.fits also fg.fits)
    (sa, (sb, (sc, (sd, (se, (sf, sg)))))) _ _ _
    (has_len fa.octets fa.fits sa _ na.some na.fit na.none)
    hb c.both_len.ensures in
    record { some = len_some _ _ _ _ ha; fit = len_fit _ _ _ _ ha; none = len_none _ _ _ _ ha }

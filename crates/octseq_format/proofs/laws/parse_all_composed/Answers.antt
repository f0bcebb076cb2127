use Rattle.std.proofs.Common.{◌∙◌, refl, ap, length, map}
use Rattle.octseq.specs.Window.{past, whole}
use Rattle.octseq_format.specs.Laws.{moving_of}
use Rattle.octseq_format.specs.Row.{Moved, RowTo, one_to, one_moved, moving_moved, delimited_moved, to_read_back}
use Rattle.octseq_format.specs.Walk.{items_left}
use Rattle.octseq_format.proofs.Wholes.{content_taken}
use Rattle.octseq_format.proofs.laws.parse_all_composed.Goals as goal

pub unreachable-requires : goal.unreachable-requires
unreachable-requires g c =
    let f = g.F.Format in
    let laws = g.met.F.Format in
    let said = map (λ v. f.says (f.found v)) c.args.values.now in
    let content = g.R.AsOctets.content c.args.octets in
    let back = to_read_back (Moved f.is_at) f.says f.octets f.fits
    (delimited_moved (moving_of laws.onward (laws.moving refl)) (laws.delimited refl)) in
    let taken = content_taken back said c.requires.fit content c.requires.octets in
    c.in-Err.ensures.malformed refl taken.it taken.is

pub returns : goal.returns
returns g c =
    let f = g.F.Format in
    let laws = g.met.F.Format in
    let said = map (λ v. f.says (f.found v)) c.args.values.now in
    let content = g.R.AsOctets.content c.args.octets in
    let back = to_read_back (Moved f.is_at) f.says f.octets f.fits
    (delimited_moved (moving_of laws.onward (laws.moving refl)) (laws.delimited refl)) in
    let taken = content_taken back said c.requires.fit content c.requires.octets in
    let end = past (length content) (whole content) in
    let one = (one_to (Moved f.is_at) (one_moved f.one) (moving_moved f.is_at)).same (whole content)
    (items_left c.in-Ok.again) taken.it end end c.in-Ok.ensures.value taken.is in
    ap (map f.says) one.0 ∙ taken.tells

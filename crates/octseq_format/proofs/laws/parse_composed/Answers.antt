use Rattle.std.proofs.Common.{◌∙◌, refl, ap, length}
use Rattle.octseq.specs.Window.{past, whole}
use Rattle.octseq_format.proofs.Wholes.{content_taken}
use Rattle.octseq_format.proofs.laws.parse_composed.Goals as goal

pub unreachable-requires : goal.unreachable-requires
unreachable-requires g c =
    let f = g.F.Format in
    let said = f.says (f.found c.args.value.now) in
    let content = g.R.AsOctets.content c.args.octets in
    let taken = content_taken g.met.F.Format.read_back said c.requires.fit.fits content c.requires.octets in
    c.in-Err.ensures.malformed refl taken.it taken.is

pub returns : goal.returns
returns g c =
    let f = g.F.Format in
    let said = f.says (f.found c.args.value.now) in
    let content = g.R.AsOctets.content c.args.octets in
    let taken = content_taken g.met.F.Format.read_back said c.requires.fit.fits content c.requires.octets in
    let end = past (length content) (whole content) in
    let one = f.one.same (whole content) (f.found c.in-Ok.again) taken.it end end c.in-Ok.ensures.value taken.is in
    ap f.says one.0 ∙ taken.tells

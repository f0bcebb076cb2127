use Rattle.std.specs.Prelude.{refl}
use Rattle.octseq_format.specs.Pair.{both_say}
use Rattle.octseq_format.proofs.Splits.{first_long, second_long}
use Rattle.octseq_format.proofs.split.SplitFamily.tag_of.Goals as goal

pub returns-in_err-tag_of-clause-none : goal.returns-in_err-tag_of-clause-none
unfolding both_say
returns-in_err-tag_of-clause-none g c = λ none has.
    let k = g.C.Cut in
    let f = g.F.Family in
    let h = g.G.Family in
    let value = c.args.value.now in
    let said : f.Said × h.Said = (f.says (f.found value.0), h.says (h.found value.1)) in
    let number = k.whole (f.tag said.0) (h.tag said.1) in
    first_long f.octets h.octets f.fits h.fits f.tag h.tag (k.first number) (k.second number) number said has
    (c.in_err-tag_of.ensures.none refl) (k.first_below number)

pub returns-in_err-tag_of-2-clause-none : goal.returns-in_err-tag_of-2-clause-none
unfolding both_say
returns-in_err-tag_of-2-clause-none g c = λ none has.
    let k = g.C.Cut in
    let f = g.F.Family in
    let h = g.G.Family in
    let value = c.args.value.now in
    let said : f.Said × h.Said = (f.says (f.found value.0), h.says (h.found value.1)) in
    let number = k.whole (f.tag said.0) (h.tag said.1) in
    second_long f.octets h.octets f.fits h.fits f.tag h.tag (k.first number) (k.second number) number said has
    (c.in_err-tag_of-2.ensures.none refl) (k.second_below number)

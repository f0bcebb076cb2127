use Rattle.octseq_format.specs.Pair.{both_say}
use Rattle.octseq_format.proofs.Lens.{second_has}
use Rattle.octseq_format.proofs.after.AfterFamily.tag_of.Goals as goal

pub returns-clause-none : goal.returns-clause-none
unfolding both_say
returns-clause-none g c = λ none has.
    let a = g.A.Format in
    let f = g.F.Family in
    let value = c.args.value.now in
    let tag = f.tag (f.says (f.found value.1)) in
    c.tag_of.ensures.none none
    (second_has a.octets (f.octets tag) a.fits (f.fits tag) (a.says (a.found value.0), f.says (f.found value.1)) has)

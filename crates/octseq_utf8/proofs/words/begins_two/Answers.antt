use Rattle.std.proofs.Common.{refl, arith}
use Rattle.std.proofs.lemmas.Bool.Decides.{nat_tests}
use Rattle.octseq_utf8.proofs.Masks.{two}
use Rattle.octseq_utf8.proofs.words.begins_two.Goals as goal

pub returns-then-lead-ge32962 : goal.returns-then-lead-ge32962
returns-then-lead-ge32962 c h =
    two c.args.word _ _ _ _ (refl, refl, refl, refl) c.if-lead-ge32962.true (grind (arith, nat_tests))

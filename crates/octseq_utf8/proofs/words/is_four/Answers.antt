use Rattle.std.proofs.Common.{refl, arith}
use Rattle.std.proofs.lemmas.Bool.Decides.{nat_tests}
use Rattle.octseq_utf8.proofs.Masks.{four}
use Rattle.octseq_utf8.proofs.words.is_four.Goals as goal

pub returns : goal.returns
returns c h = four c.args.word _ _ _ _ (refl, refl, refl, refl) (omega arith) (grind (arith, nat_tests))

use Rattle.std.proofs.Common.{refl, arith}
use Rattle.std.proofs.lemmas.Bool.Decides.{nat_tests}
use Rattle.octseq_utf8.proofs.Masks.{two_twos}
use Rattle.octseq_utf8.proofs.words.is_pair_of_two.Goals as goal

pub returns-clause-first : goal.returns-clause-first
returns-clause-first c h =
    (two_twos c.args.word _ _ _ _ (refl, refl, refl, refl) (omega arith) (grind (arith, nat_tests))).0

pub returns-clause-second : goal.returns-clause-second
returns-clause-second c h =
    (two_twos c.args.word _ _ _ _ (refl, refl, refl, refl) (omega arith) (grind (arith, nat_tests))).1

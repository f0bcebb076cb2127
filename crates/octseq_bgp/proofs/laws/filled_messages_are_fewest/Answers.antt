use Rattle.octseq_bgp.specs.Filling.{FitWith, given_long, with_announced, with_in_last, with_withdrawn}
use Rattle.octseq_bgp.proofs.Filling.{announced_rises, fits_after, withdrawn_rises}
use Rattle.octseq_bgp.proofs.InLast.{in_last_rises}
use Rattle.octseq_bgp.proofs.Runs.{fewest}
use Rattle.octseq_bgp.proofs.laws.filled_messages_are_fewest.Goals as goal

pub returns-clause-withdrawn : goal.returns-clause-withdrawn
returns-clause-withdrawn c = λ most u row counts runs filled cut. fewest (FitWith most (with_withdrawn u))
    (fits_after most (with_withdrawn u) given_long (withdrawn_rises u)) row counts runs filled cut

pub returns-clause-announced : goal.returns-clause-announced
returns-clause-announced c = λ most u row counts runs filled cut. fewest (FitWith most (with_announced u))
    (fits_after most (with_announced u) given_long (announced_rises u)) row counts runs filled cut

pub returns-clause-in_last : goal.returns-clause-in_last
returns-clause-in_last c = λ most t u row counts runs filled cut. fewest (FitWith most (with_in_last t u))
    (fits_after most (with_in_last t u) given_long (in_last_rises t u)) row counts runs filled cut

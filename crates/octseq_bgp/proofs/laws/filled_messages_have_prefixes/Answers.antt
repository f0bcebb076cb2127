use Rattle.octseq_bgp.specs.Filling.{FitWith, with_announced, with_in_last, with_withdrawn}
use Rattle.octseq_bgp.proofs.Runs.{none_empty}
use Rattle.octseq_bgp.proofs.laws.filled_messages_have_prefixes.Goals as goal

pub returns-clause-withdrawn : goal.returns-clause-withdrawn
returns-clause-withdrawn c = λ most u row counts alone filled.
    none_empty (FitWith most (with_withdrawn u)) row counts alone filled

pub returns-clause-announced : goal.returns-clause-announced
returns-clause-announced c = λ most u row counts alone filled.
    none_empty (FitWith most (with_announced u)) row counts alone filled

pub returns-clause-in_last : goal.returns-clause-in_last
returns-clause-in_last c = λ most t u row counts alone filled.
    none_empty (FitWith most (with_in_last t u)) row counts alone filled

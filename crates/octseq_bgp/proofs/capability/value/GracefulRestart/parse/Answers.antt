use Rattle.std.proofs.Common.{refl, subst}
use Rattle.octseq.specs.Parser.{window}
use Rattle.octseq_format.specs.Fixed.{IsFixed}
use Rattle.octseq_format.specs.Pair.{◌then◌}
use Rattle.octseq_format.specs.Rest.{IsRest}
use Rattle.octseq_bgp.specs.Parts.{IsNumber}
use Rattle.octseq_bgp.specs.FamilyTuple.{family_tuple}
use Rattle.octseq_bgp.specs.Fills.{Fills}
use Rattle.octseq_bgp.proofs.OneCapability.{one_restart_front}
use Rattle.octseq_bgp.proofs.Wholes.{one_whole}
use Rattle.octseq_bgp.proofs.capability.value.GracefulRestart.parse.Goals as goal

pub returns-in_err-bits-clause-malformed : goal.returns-in_err-bits-clause-malformed
returns-in_err-bits-clause-malformed g c = λ _ it is. c.in_err-bits.ensures.malformed refl (it.bits, is.rest) is.front

pub returns-in_err-families-clause-malformed : goal.returns-in_err-families-clause-malformed
returns-in_err-families-clause-malformed g c = λ _ it is.
    let front = one_whole (IsNumber 2 then IsRest) one_restart_front (window c.args.parser) _ _ is.front
    c.in_ok-bits.ensures.value in
    c.in_err-families.ensures.malformed refl it.families
    (subst (λ f. Fills (IsFixed 4 family_tuple) f.1 it.families) front is.families)

-- A capability says at most one thing.
use Rattle.std.proofs.Common.{◌≡◌, ℕ, List, if◌then◌else◌, nat_eq, refl, sym, ap, ◌∙◌, subst, arith}
use mathlib.Core.Logic.{inl, inr}
use Rattle.octseq.specs.Window.{Window}
use Rattle.octseq_format.specs.Fixed.{IsFixed}
use Rattle.octseq_format.specs.Laws.{IsOne}
use Rattle.octseq_format.specs.Pair.{◌then◌, ◌one_then◌}
use Rattle.octseq_format.specs.Rest.{IsRest, one_rest}
use Rattle.octseq_bgp.specs.Capability.{CapabilityValue, Restart, IsRestart, MadeCapability, HasCode, IsCoded}
use Rattle.octseq_bgp.specs.Capability.{IsCapabilityValue}
use Rattle.octseq_bgp.specs.CapabilityType.{code_number}
use Rattle.octseq_bgp.specs.Parts.{IsNumber}
use Rattle.octseq_bgp.specs.FamilyTuple.{family_tuple}
use Rattle.octseq_bgp.specs.Fills.{Fills}
use Rattle.octseq_bgp.specs.OneParts.{one_number}
use Rattle.octseq_bgp.specs.declared.capability.capability_type.CapabilityType.{CapabilityType}
use Rattle.octseq_bgp.specs.declared.capability.capability_type.CapabilityType.TheVariants as code
use Rattle.octseq_bgp.proofs.Chunks.{one_filling}
use Rattle.octseq_bgp.proofs.Values.{OneSaid}
use Rattle.octseq_bgp.proofs.Wholes.{one_whole}

abbrev code_of : ℕ → CapabilityType
code_of n = if nat_eq n 1 then code.MultiProtocol
    else if nat_eq n 2 then code.RouteRefresh
    else if nat_eq n 6 then code.ExtendedMessage
    else if nat_eq n 64 then code.GracefulRestart
    else if nat_eq n 65 then code.FourOctetAsn
    else if nat_eq n 69 then code.AddPath
    else code.EnhancedRouteRefresh

code_again : (c : CapabilityType) → code_of (code_number c) ≡ c
code_again code.MultiProtocol = refl
code_again code.RouteRefresh = refl
code_again code.ExtendedMessage = refl
code_again code.GracefulRestart = refl
code_again code.FourOctetAsn = refl
code_again code.AddPath = refl
code_again code.EnhancedRouteRefresh = refl

pub one_code : (a b : CapabilityType) → code_number a ≡ code_number b → a ≡ b
one_code a b same = sym (code_again a) ∙ ap code_of same ∙ code_again b

one_said : {A : Type 0} (make : A → CapabilityValue) {Is : A → Type 0} → OneSaid Is → OneSaid (MadeCapability make Is)
one_said make one v u a b = a.1 ∙ ap make (one a.0 b.0 a.2 b.2) ∙ sym b.1

restart_from : ℕ → List (ℕ × (ℕ × ℕ)) → Restart
restart_from bits families = record { bits = bits; families = families }

pub one_restart_front : IsOne (IsNumber 2 then IsRest)
one_restart_front = one_number 2 one_then one_rest

one_restart : (w : Window) → OneSaid (IsRestart w)
unfolding restart_from
one_restart w r o a b =
    let front = one_whole (IsNumber 2 then IsRest) one_restart_front w _ _ a.front b.front in
    let row = one_filling 4 family_tuple (omega arith) b.rest r.families o.families
    (subst (λ f. Fills (IsFixed 4 family_tuple) f.1 r.families) front a.families) b.families in
    ap (λ f. restart_from f.0 r.families) front ∙ ap (restart_from o.bits) row

one_form : (c : CapabilityType) (w : Window) → OneSaid (HasCode c w)
one_form code.MultiProtocol w = one_said CapabilityValue.multi_protocol
    (one_whole (IsNumber 2 then IsNumber 1 then IsNumber 1)
    (one_number 2 one_then one_number 1 one_then one_number 1) w)
one_form code.RouteRefresh w = λ v u a b. a.0 ∙ sym b.0
one_form code.ExtendedMessage w = λ v u a b. a.0 ∙ sym b.0
one_form code.GracefulRestart w = one_said CapabilityValue.graceful_restart (one_restart w)
one_form code.FourOctetAsn w = one_said CapabilityValue.four_octet_asn (one_whole (IsNumber 4) (one_number 4) w)
one_form code.AddPath w = one_said CapabilityValue.add_path
    (λ row others a b. one_filling 4 family_tuple (omega arith) w row others a.0.0 b.0.0)
one_form code.EnhancedRouteRefresh w = λ v u a b. a.0 ∙ sym b.0

-- octets of a known code have its form
pub form_of_code : (number : ℕ) (c : CapabilityType) (w : Window) (v : CapabilityValue) → code_number c ≡ number
    → IsCoded number w v → HasCode c w v
form_of_code number c w v known is = subst (λ c. HasCode c w v) (one_code is.0 c (sym is.1 ∙ sym known)) is.2

one_coded : (number : ℕ) (w : Window) → OneSaid (IsCoded number w)
one_coded number w v u a b = one_form b.0 w v u (form_of_code number b.0 w v (sym b.1) a) b.2

pub one_capability_value : (number : ℕ) (w : Window) (a b : CapabilityValue) → IsCapabilityValue number w a
    → IsCapabilityValue number w b → a ≡ b
one_capability_value number w v u (inl a) (inl b) = one_coded number w v u a b
one_capability_value number w v u (inl a) (inr b) = absurd (b.1 v a)
one_capability_value number w v u (inr a) (inl b) = absurd (a.1 u b)
one_capability_value number w v u (inr a) (inr b) = a.0 ∙ sym b.0

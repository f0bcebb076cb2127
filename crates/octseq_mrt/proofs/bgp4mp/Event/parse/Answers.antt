use Rattle.std.proofs.Common.{◌≡◌, ℕ, true, refl, sym, ◌∙◌}
use Rattle.octseq.specs.Parser.{window}
use Rattle.octseq.specs.Window.{Window}
use Rattle.octseq_format.specs.Pair.{◌then◌}
use Rattle.octseq_bgp.specs.Fills.{Whole}
use Rattle.octseq_bgp.specs.Parts.{IsNumber}
use Rattle.octseq_mrt.specs.Bgp4Mp.{Event, IsEvent}
use Rattle.octseq_mrt.specs.Kind.{is_state_change}
use Rattle.octseq_mrt.specs.declared.kind.Bgp4MpSubtype.{Bgp4MpSubtype}
use Rattle.octseq_mrt.proofs.bgp4mp.Event.parse.Goals as goal

-- if there are no two states, there is no state change
no_states : (s : Bgp4MpSubtype) (w : Window) → is_state_change s ≡ true
    → ((states : ℕ × ℕ) → Whole (IsNumber 2 then IsNumber 2) w states → ⊥) → (event : Event) → IsEvent s w event → ⊥
no_states s w change none (Event.state_change states) is = none states is.1
no_states s w change none (Event.message session octets) is = let other = is.0 in cc

pub returns-in_err-old-clause-malformed : goal.returns-in_err-old-clause-malformed
returns-in_err-old-clause-malformed g c = λ _.
    no_states c.args.subtype (window c.args.parser) (sym c.is_state_change.ensures ∙ c.if-is_state_change.true)
    (c.in_err-old.ensures.malformed refl)

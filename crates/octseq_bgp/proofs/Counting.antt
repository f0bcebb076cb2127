-- Values that were counted fill a window.
use Rattle.std.proofs.Common.{◌≡◌, ◌∙◌, ℕ, List, length, Ok, sym, ap, subst}
use Rattle.std.specs.Coded.{Coded}
use Rattle.octseq.specs.Window.{Window, left}
use Rattle.octseq_format.specs.Laws.{Relation, IsOne}
use Rattle.octseq_format.specs.Row.{Row, Many}
use Rattle.octseq_format.proofs.RowSteps.{held_as}
use Rattle.octseq_bgp.specs.Fills.{Counts}

pub counted : {A E : Type 0} → Coded A → (Is : Relation A) → IsOne Is → (w v : Window) (count : ℕ) (row : List A)
    → Many count Is w row v → left v ≡ 0 → Counts {E = E} Is w (Ok count)
counted code Is one w v count row is ends = record {
  held = (row, ∣ (v, is) ∣₁);
  filled = λ held. (v, (subst (λ row. Row Is w row v) (held_as code Is one w v count row held is) is.1, ends));
  many = λ held. sym (ap length (held_as code Is one w v count row held is)) ∙ is.0;
  malformed = λ err. absurd (cc);
}

-- Types that were seen are marked in a table.
use Rattle.std.proofs.Common.{◌≡◌, ◌≢◌, ◌<◌, ◌≤◌, ℕ, List, ◌∷◌, Bool, true, false, length, get_or, set, sym, ◌∙◌}
use Rattle.std.proofs.Common.{subst, arith}
use Rattle.std.specs.Prelude.{◌↔◌}
use Rattle.std.proofs.lemmas.List.{get_or-set_other, get_or-set_same}
use Rattle.std.proofs.Math.Decide.{dec_le}
use mathlib.Core.Logic.{inl, inr}
use Rattle.octseq_bgp.specs.Fault.{Marks}
use Rattle.octseq_bgp.specs.Handling.{HasType}
use Rattle.octseq_bgp.specs.Parts.{Attribute, type_of}

apart : (seen : List Bool) (before : List Attribute) (e : Attribute) (code k : ℕ) → code ≡ type_of e → k ≢ code
    → (get_or seen k false ≡ true) ↔ HasType before k
    → (get_or (set seen code true) k false ≡ true) ↔ HasType (e ∷ before) k
apart seen before e code k same other is =
    let kept = get_or-set_other seen code k true false other in
    (λ now. inr (is.0 (sym kept ∙ now)), has) where
      has : HasType (e ∷ before) k → get_or (set seen code true) k false ≡ true
      has (inl here) = absurd (other (sym here ∙ sym same))
      has (inr more) = get_or-set_other seen code k true false other ∙ is.1 more

mark : (seen : List Bool) (before : List Attribute) (e : Attribute) (code k : ℕ) → code ≡ type_of e → code < length seen
    → (get_or seen k false ≡ true) ↔ HasType before k → Dec (k ≤ code) → Dec (code ≤ k)
    → (get_or (set seen code true) k false ≡ true) ↔ HasType (e ∷ before) k
mark seen before e code k same room is (yes low) (yes high) =
    let here : code ≡ k = omega (arith, low, high) in (
      λ _. inl (sym same ∙ here),
      λ _. subst (λ k. get_or (set seen code true) k false ≡ true) here
          (get_or-set_same seen code true false room),
    )
mark seen before e code k same room is (no high) _ =
    let other : k ≢ code = λ at. high (omega (arith, at)) in
    apart seen before e code k same other is
mark seen before e code k same room is _ (no low) =
    let other : k ≢ code = λ at. low (omega (arith, at)) in
    apart seen before e code k same other is

-- one more type is marked
pub marked : (seen : List Bool) (before : List Attribute) (e : Attribute) (code : ℕ) → code ≡ type_of e
    → code < length seen
    → Marks seen before → Marks (set seen code true) (e ∷ before)
marked seen before e code same room marks k fits =
    mark seen before e code k same room (marks k fits) (dec_le k code) (dec_le code k)

-- A slice whose front is written part by part.
use Rattle.std.proofs.Common.{◌≡◌, ℕ, zero, suc, ◌+◌, List, [], ◌∷◌, ◌++◌, length, take, drop, refl, ap, sym, ◌∙◌}
use Rattle.std.proofs.Common.{append_assoc, length-append}
use Rattle.std.proofs.lemmas.List.{drop-drop}

-- a list is a front of it, followed by the rest
front_and_rest : (n : ℕ) (x : List ℕ) → x ≡ take n x ++ drop (length (take n x)) x
front_and_rest zero x = refl
front_and_rest (suc n) [] = refl
front_and_rest (suc n) (a ∷ x) = ap (λ y. a ∷ y) (front_and_rest n x)

-- a text is written to the front of a slice, followed by another
pub filled : (before middle after text more : List ℕ) (n m : ℕ) → take n middle ≡ text
    → drop (length (take n middle)) middle ≡ drop (length (take n middle)) before
    → take m after ≡ text ++ more → drop (length (take m after)) after ≡ drop (length (take m after)) middle
    → after ≡ text ++ (more ++ drop (length text + length more) before)
filled before middle after text more n m first kept second left =
    let long : length (take m after) ≡ length text + length more = ap length second ∙ length-append text more in
    let past : drop (length text + length more) middle ≡ drop (length text + length more) before =
    sym (drop-drop (length more) (length text) middle)
    ∙ ap (λ y. drop (length more) y) (ap (λ z. drop (length z) middle) (sym first) ∙ kept
    ∙ ap (λ z. drop (length z) before) first)
    ∙ drop-drop (length more) (length text) before in
    front_and_rest m after
    ∙ ap (λ z. z ++ drop (length (take m after)) after) second
    ∙ ap (λ z. (text ++ more) ++ z) (left ∙ ap (λ k. drop k middle) long ∙ past)
    ∙ append_assoc text more (drop (length text + length more) before)

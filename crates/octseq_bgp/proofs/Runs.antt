-- Runs that are filled one after another are the fewest.
use Rattle.std.proofs.Common.{◌≡◌, ℕ, ◌+◌, ◌-◌, ◌≤◌, suc, zero, List, [], ◌∷◌, ◌++◌, length, take, drop}
use Rattle.std.proofs.Common.{sym, ap, ◌∙◌, subst, arith, length-append, length-drop, drop-drop, take_at}
use Rattle.std.specs.List.{AllByRecursion, flat_map}
use Rattle.std.proofs.Math.Decide.{dec_le}
use Rattle.std.proofs.Math.Nat.{lt_of_not-le}
use Rattle.std.proofs.Math.Seq.{drop-append-add}
use Rattle.std.proofs.lemmas.List.{drop-append-le}
use Rattle.octseq_bgp.specs.Filling.{IsMost, AreRunsFilled, AreRunsThatFit}

all_drop : {A : Type 0} (P : A → Type 0) (n : ℕ) (row : List A) → AllByRecursion P row → AllByRecursion P (drop n row)
all_drop P zero row all = all
all_drop P (suc n) [] all = tt
all_drop P (suc n) (x ∷ row) all = all_drop P n row all.1

module _ {A : Type 0} (Fits : List A → Type 0) where
  -- a run of a cut that is behind reaches no further than the run that is filled
  reaches : (after : (k : ℕ) (run : List A) → Fits run → Fits (drop k run)) (row run others : List A) (n k : ℕ)
      → IsMost Fits row n → Fits run → drop k (run ++ others) ≡ row → Dec (length run ≤ k) → length run ≤ k + n
  reaches after row run others n k most fits left (yes behind) = omega (arith, behind)
  reaches after row run others n k most fits left (no ahead) =
      let less = lt_of_not-le ahead in
      let m = length run - k in
      let is : row ≡ drop k run ++ others = sym left ∙ drop-append-le k run others (omega (arith, less)) in
      let long : length (drop k run) ≡ m = length-drop k run in
      let all : length row ≡ m + length others = ap length is ∙ length-append (drop k run) others
      ∙ ap (λ n. n + length others) long in
      let front : take m row ≡ drop k run = ap (take m) is ∙ take_at (drop k run) others m long in
      let few = most.most m (omega (arith, all)) (subst Fits (sym front) (after k run fits)) in
      omega (arith, few, less)

  fewest_from : (after : (k : ℕ) (run : List A) → Fits run → Fits (drop k run)) (row : List A) (counts : List ℕ)
      (runs : List (List A)) (k : ℕ) → AreRunsFilled Fits row counts → AllByRecursion Fits runs
      → drop k (flat_map (λ run. run) runs) ≡ row → length counts ≤ length runs
  fewest_from after row [] runs k filled fit left = omega arith
  fewest_from after row (n ∷ counts) [] zero filled fit left = let none = ap length left in absurd
      (omega (arith, filled.0, none))
  fewest_from after row (n ∷ counts) [] (suc k) filled fit left = let none = ap length left in absurd
      (omega (arith, filled.0, none))
  fewest_from after row (n ∷ counts) (run ∷ runs) k filled fit left =
      let others = flat_map (λ run. run) runs in
      let far = reaches after row run others n k filled.1 fit.0 left (dec_le (length run) k) in
      let next : drop (k + n - length run) others ≡ drop n row =
      sym (drop-append-add run others (k + n - length run))
      ∙ ap (λ i. drop i (run ++ others)) (omega (arith, far))
      ∙ sym (drop-drop n k (run ++ others)) ∙ ap (drop n) left in
      let rest = fewest_from after (drop n row) counts runs (k + n - length run) filled.2 fit.1 next in
      omega (arith, rest)

  -- runs that are filled are no more than those of any cut
  pub fewest : (after : (k : ℕ) (run : List A) → Fits run → Fits (drop k run)) (row : List A) (counts : List ℕ)
      (runs : List (List A)) → AreRunsFilled Fits row counts → AreRunsThatFit Fits row runs
      → length counts ≤ length runs
  fewest after row counts runs filled cut = fewest_from after row counts runs 0 filled cut.fit cut.whole

  -- and none is empty, if each item fits alone
  pub none_empty : (row : List A) (counts : List ℕ) → AllByRecursion (λ x. Fits (x ∷ [])) row
      → AreRunsFilled Fits row counts
      → AllByRecursion (λ n. 1 ≤ n) counts
  none_empty row [] alone filled = tt
  none_empty [] (n ∷ counts) alone filled = absurd (omega (arith, filled.0))
  none_empty (x ∷ row) (n ∷ counts) alone filled = (
    filled.1.most 1 filled.0 alone.0,
    none_empty (drop n (x ∷ row)) counts (all_drop (λ x. Fits (x ∷ [])) n (x ∷ row) alone) filled.2,
  )

-- Bad parts and what follows them.
use Rattle.std.proofs.Common.{◌≡◌, ℕ, ◌+◌, ◌<◌, ◌≤◌, List, [], ◌∷◌, ◌++◌, length, take, drop, arith}
use Rattle.std.proofs.Common.{◌⊎◌, inl, inr, ap, sym, ◌∙◌, subst, append_assoc, length-append}
use Rattle.std.proofs.Math.Seq.{take-append_seam}
use Rattle.std.proofs.lemmas.List.{append-nil, take-append-drop}
use Rattle.octseq_utf8.specs.Parts.{StartsWith, IsBeginning, IsBadPart, Bad}
use Rattle.octseq_utf8.specs.Reading.{width_of, width, fitting, part_len, parts_of}
use Rattle.octseq_utf8.proofs.Fits.{beginning_fits, beginning_short, nil_or_some}
use Rattle.octseq_utf8.proofs.Fits.{Fits, fits_more, fits_less, fits_fewer, get_left}
use Rattle.octseq_utf8.proofs.Fits.{fitting_fits, fitting_within, fitting_wide, fits_fitting}
use Rattle.octseq_utf8.proofs.Splitting.{bad_of, bad_only, bad_some, fitting_beginning, parts_bad, parts_nil}

-- p is the bad part of p ++ t if no encoding begins there and p is as long as the first part
bad_at : (p t : List ℕ) → 1 ≤ length p → (width (p ++ t) ≡ 0) ⊎ (fitting (p ++ t) < width (p ++ t))
    → part_len (p ++ t) ≡ length p → IsBadPart (p ++ t) p
bad_at p t some h n =
    let front : take (part_len (p ++ t)) (p ++ t) ≡ p = ap (λ k. take k (p ++ t)) n ∙ take-append_seam p t in
    subst (λ y. IsBadPart (p ++ t) y) front (bad_of (p ++ t) (omega (arith, length-append p t)) h)

-- a beginning by itself is its own bad part
pub bad_self : (q : List ℕ) → IsBeginning q → IsBadPart (q ++ []) q
bad_self q b =
    let f = beginning_fits b in
    let some = f.0 in
    let short = beginning_short b in
    let lead : width (q ++ []) ≡ width q = ap width_of (get_left q [] 0 some) in
    let m = fits_fitting (q ++ []) (length q) (fits_more q [] (length q) f) in
    let long : length (q ++ []) ≡ length q = ap length (append-nil q) in
    let most = fitting_within (q ++ []) (omega arith) in
    let all : fitting (q ++ []) ≡ length q = omega arith in
    bad_at q [] some (inr (omega arith)) (omega arith)

-- a beginning splits into one part, the bad part that is all of it
pub parts_self : (q : List ℕ) → IsBeginning q → parts_of q ≡ Bad q ∷ []
parts_self q b = ap parts_of (sym (append-nil q)) ∙ parts_bad q [] (bad_self q b) ∙ ap (λ ps. Bad q ∷ ps) parts_nil

-- A bad part that doesn't reach the end, or is not a beginning, stays one whatever follows.
module _ (p s r : List ℕ) (b : IsBadPart (p ++ s) p) (settled : ¬ (IsBeginning p × (s ≡ []))) where
  some : 1 ≤ length p
  some = (bad_some b).0

  lead : width (p ++ (s ++ r)) ≡ width (p ++ s)
  lead = ap width_of (get_left p (s ++ r) 0 some ∙ sym (get_left p s 0 some))

  -- of the whole, no octet after p fits
  no_longer : IsBeginning p → fitting (p ++ s) ≤ length p → 1 ≤ width (p ++ (s ++ r))
      → (fitting (p ++ (s ++ r)) ≤ length p) ⊎ (length p < fitting (p ++ (s ++ r))) → fitting (p ++ (s ++ r)) ≤ length p
  no_longer g here wide (inl h) = h
  no_longer g here wide (inr h) =
      let after : 1 ≤ length s = nil_or_some s (λ e. settled (g, e)) in
      let all = fitting_fits (p ++ (s ++ r)) (omega (arith, length-append p (s ++ r), some)) wide in
      let one = fits_fewer (p ++ (s ++ r)) (length p + 1) (fitting (p ++ (s ++ r))) (omega arith) (omega arith) all in
      let left = fits_less (p ++ s) r (length p + 1) (omega (arith, length-append p s))
      (subst (λ y. Fits y (length p + 1)) (sym (append_assoc p s r)) one) in
      let more = fits_fitting (p ++ s) (length p + 1) left in
      absurd (omega arith)

  at_most_or_more : (a b : ℕ) → (a ≤ b) ⊎ (b < a)
  at_most_or_more a b = grind arith

  beginning_more : IsBeginning p → fitting (p ++ s) < width (p ++ s) → length p ≡ part_len (p ++ s)
      → IsBadPart (p ++ (s ++ r)) p
  beginning_more g z only =
      let all = fits_fitting (p ++ (s ++ r)) (length p) (fits_more p (s ++ r) (length p) (beginning_fits g)) in
      let short = beginning_short g in
      let same : width (p ++ s) ≡ width p = ap width_of (get_left p s 0 some) in
      let wide : 1 ≤ width (p ++ (s ++ r)) = omega (arith, lead) in
      let most = no_longer g (omega arith) wide (at_most_or_more (fitting (p ++ (s ++ r))) (length p)) in
      bad_at p (s ++ r) some (inr (omega (arith, lead))) (omega (arith, some))

  by_cases : (IsBeginning p × ((q : List ℕ) → StartsWith q (p ++ s) → IsBeginning q → length q ≤ length p))
      ⊎ ((length p ≡ 1) × ((q : List ℕ) → StartsWith q (p ++ s) → ¬ IsBeginning q))
      → (width (p ++ s) ≡ 0) ⊎ (fitting (p ++ s) < width (p ++ s)) → length p ≡ part_len (p ++ s)
      → IsBadPart (p ++ (s ++ r)) p
  by_cases (inl g) (inl z) only = let short = beginning_short g.0 in let same : width (p ++ s) ≡ width p =
      ap width_of (get_left p s 0 some) in absurd (omega arith)
  by_cases (inl g) (inr z) only = beginning_more g.0 z only
  by_cases (inr g) (inl z) only = let wide = fitting_wide (p ++ (s ++ r)) in
      bad_at p (s ++ r) some (inl (lead ∙ z)) (let one = g.0 in omega (arith, lead))
  by_cases (inr g) (inr z) only =
      absurd (g.1 (take (fitting (p ++ s)) (p ++ s))
      (drop (fitting (p ++ s)) (p ++ s), sym (take-append-drop (fitting (p ++ s)) (p ++ s)))
      (fitting_beginning (p ++ s) (omega (arith, length-append p s, some)) (omega arith) z))

  pub bad_more : IsBadPart (p ++ (s ++ r)) p
  bad_more = let only = bad_only (p ++ s) p b in by_cases b.longest only.0 only.1

-- Lines at the front of octets.
use Rattle.std.proofs.Common.{◌≡◌, ◌≢◌, ℕ, ◌⊎◌, inl, inr, List, [], ◌∷◌, ◌++◌, refl, sym, ap, ◌∙◌, arith}
use Rattle.octseq_callers.specs.Line.{IsLine, TakesLine}

-- octets without a line feed have none after a front
no_feed : (line other more : List ℕ) → IsLine other → other ≡ line ++ 10 ∷ more → ⊥
no_feed [] (x ∷ other) more (here, is) e = let same : x ≡ 10 = cc in here same
no_feed (y ∷ line) (x ∷ other) more (here, is) e = let after : other ≡ line ++ 10 ∷ more =
    cc in no_feed line other more is after
no_feed [] [] more is e = cc
no_feed (y ∷ line) [] more is e = cc

same_line : (line other more rest : List ℕ) → IsLine line → IsLine other → line ++ 10 ∷ more ≡ other ++ 10 ∷ rest
    → (line ≡ other) × (more ≡ rest)
same_line [] [] more rest is other_is e = (refl, cc)
same_line [] (y ∷ other) more rest is (here, other_is) e = let same : y ≡ 10 = cc in absurd (here same)
same_line (x ∷ line) [] more rest (here, is) other_is e = let same : x ≡ 10 = cc in absurd (here same)
same_line (x ∷ line) (y ∷ other) more rest (here, is) (there, other_is) e =
    let first : x ≡ y = cc in
    let after : line ++ 10 ∷ more ≡ other ++ 10 ∷ rest = cc in
    let same = same_line line other more rest is other_is after in
    (ap (λ z. z ∷ line) first ∙ ap (λ octets. y ∷ octets) same.0, same.1)

-- at most one line is at the front
pub one_line : (octets line other more rest : List ℕ) → TakesLine octets line more → TakesLine octets other rest
    → (line ≡ other) × (more ≡ rest)
one_line octets line other more rest (is, inl e) (other_is, inl f) =
    same_line line other more rest is other_is (sym e ∙ f)
one_line octets line other more rest (is, inl e) (other_is, inr (f, none)) =
    absurd (no_feed line other more other_is (sym f ∙ e))
one_line octets line other more rest (is, inr (e, none)) (other_is, inl f) =
    absurd (no_feed other line rest is (sym e ∙ f))
one_line octets line other more rest (is, inr (e, none)) (other_is, inr (f, others)) = (sym e ∙ f, none ∙ sym others)

line_more : (x : ℕ) (octets line more : List ℕ) → x ≢ 10 → TakesLine octets line more
    → TakesLine (x ∷ octets) (x ∷ line) more
line_more x octets line more other (is, inl e) = ((other, is), inl (ap (λ xs. x ∷ xs) e))
line_more x octets line more other (is, inr (e, none)) = ((other, is), inr (ap (λ xs. x ∷ xs) e, none))

-- a line, which may be empty, is at the front of any octets
pub some_line : (octets : List ℕ) → (line : List ℕ) × (more : List ℕ) × TakesLine octets line more
some_line [] = ([], [], (tt, inr (refl, refl)))
some_line (x ∷ octets) =
    let feed_or : (x ≡ 10) ⊎ (x ≢ 10) = grind arith in
    let after = some_line octets in
    elim feed_or [
      | inl feed ↦ ([], octets, (tt, inl (ap (λ y. y ∷ octets) feed)))
      | inr other ↦ (x ∷ after.0, after.1, line_more x octets after.0 after.1 other after.2)
    ]

-- A buffer of rows after a copy of more to the offset where those that were written end.
use Rattle.std.proofs.Common.{◌≡◌, ℕ, ◌+◌, ◌<◌, ◌≤◌, List, [], ◌∷◌, ◌++◌, length, take, drop, set, arith, ap, sym, refl}
use Rattle.std.proofs.Common.{◌∙◌, append_assoc, length-append}
use Rattle.std.proofs.lemmas.List.{drop-set-lt, length-drop, length-take-le, take_more_set}
use Rattle.octseq_c.proofs.Placed.{placed_after}

-- a buffer has its length after more items
pub placed_long : {A : Type 0} (old new done : List A) (from at : ℕ) → from ≤ length old → at ≡ from + length done
    → at ≤ length old → new ≡ (take from old ++ done) ++ drop at old → length new ≡ length old
placed_long old new done from at few a within n =
    let whole = length-append (take from old ++ done) (drop at old) in
    let front = length-append (take from old) done in
    omega (arith, ap length n, whole, front, a, within, length-take-le from old few, length-drop at old)

-- a buffer has its length after a copy to an offset
pub copy_long : {A : Type 0} (mid new more : List A) (at after : ℕ) → after ≡ at + length more → after ≤ length mid
    → new ≡ take at mid ++ (more ++ drop after mid) → length new ≡ length mid
copy_long mid new more at after e within n =
    let whole = length-append (take at mid) (more ++ drop after mid) in
    let last = length-append more (drop after mid) in
    omega (
      arith,
      ap length n,
      whole,
      last,
      e,
      within,
      length-take-le at mid (omega (arith, e, within)),
      length-drop after mid,
    )

module _ {A : Type 0} (old mid new : List A) where
  -- more items after those that were written from an offset on
  pub more_placed : (done more : List A) (from at after : ℕ) → from ≤ length old → at ≡ from + length done
      → after ≡ at + length more → mid ≡ (take from old ++ done) ++ drop at old
      → new ≡ take at mid ++ (more ++ drop after mid) → new ≡ (take from old ++ (done ++ more)) ++ drop after old
  more_placed done more from at after few a b m n =
      let front = length-append (take from old) done in
      let long : length (take from old ++ done) ≡ at = omega (arith, front, length-take-le from old few, a) in
      placed_after old mid new (take from old ++ done) more at after long b m n
      ∙ ap (λ x. x ++ drop after old) (append_assoc (take from old) done more)

  -- three lists, one after another from the first offset on
  pub three_placed : (last a b d : List A) (n1 n2 n3 : ℕ) → n1 ≡ length a → n2 ≡ n1 + length b → n3 ≡ n2 + length d
      → mid ≡ a ++ drop n1 old → new ≡ take n1 mid ++ (b ++ drop n2 mid) → last ≡ take n2 new ++ (d ++ drop n3 new)
      → last ≡ (a ++ (b ++ d)) ++ drop (length (a ++ (b ++ d))) old
  three_placed last a b d n1 n2 n3 e1 e2 e3 m1 m2 m3 =
      let p2 = placed_after old mid new a b n1 n2 (sym e1) e2 m1 m2 in
      let both = length-append a b in
      let l2 : length (a ++ b) ≡ n2 = omega (arith, both, e1, e2) in
      let p3 = placed_after old new last (a ++ b) d n2 n3 l2 e3 p2 m3 in
      let all = append_assoc a b d in
      let long : n3 ≡ length (a ++ (b ++ d)) = omega (arith, l2, e3, length-append (a ++ b) d, ap length all) in
      p3 ∙ ap (λ x. x ++ drop n3 old) all ∙ ap (λ k. (a ++ (b ++ d)) ++ drop k old) long

-- the first item, written after those that follow it
pub first_last : {A : Type 0} (old rest : List A) (one : A) → 0 < length old
    → set (take 1 old ++ rest) 0 one ≡ one ∷ rest
first_last [] rest one some = absurd (omega (arith, some))
first_last (x ∷ old) rest one some = refl

-- one item, and more after it
pub one_and_more : {A : Type 0} (old new more : List A) (one : A) (from after : ℕ) → from < length old
    → after ≡ from + 1 + length more
    → new ≡ take (from + 1) (set old from one) ++ (more ++ drop after (set old from one))
    → new ≡ take from old ++ ((one ∷ more) ++ drop after old)
one_and_more old new more one from after room e n =
    n ∙ ap (λ x. x ++ (more ++ drop after (set old from one))) (take_more_set old from one room)
    ∙ ap (λ x. (take from old ++ one ∷ []) ++ (more ++ x)) (drop-set-lt after old from one (omega (arith, e)))
    ∙ append_assoc (take from old) (one ∷ []) (more ++ drop after old)

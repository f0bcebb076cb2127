-- Octets that are read come after those of a vector, and have a number.
use Rattle.std.proofs.Common.{◌≡◌, ◌+◌, ◌≤◌, ◌++◌, ◌∙◌, ℕ, List, length, take, drop, Option}
use Rattle.std.proofs.Common.{sym, ap, subst, take-append-drop, arith}
use Rattle.std.proofs.KnownBytes.{Consumes-trans}
use Rattle.std.proofs.Math.Seq.{take-take}
use Rattle.std.proofs.lemmas.List.{length-take, length-drop, drop-take, take_all, take-append-le}
use Rattle.std.specs.Io.KnownBytes.{Consumes}

-- a front of the octets grows by those that follow it
take_more : (xs ys : List ℕ) (f n : ℕ) → take f ys ≡ take f xs → take (f + n) ys ≡ take f xs ++ take n (drop f ys)
take_more xs ys f n same =
    sym (take-append-drop f (take (f + n) ys))
    ∙ ap (λ l. l ++ drop f (take (f + n) ys)) (take-take f (f + n) ys (omega arith) ∙ same)
    ∙ ap (λ l. take f xs ++ l) (drop-take f n ys)

-- what was read in two steps
pub consumed_more : (a b c : Option (List ℕ)) (xs ys : List ℕ) (f n : ℕ) → take f ys ≡ take f xs
    → Consumes a b (take f xs) → Consumes b c (take n (drop f ys)) → Consumes a c (take (f + n) ys)
consumed_more a b c xs ys f n same first second =
    subst (Consumes a c) (sym (take_more xs ys f n same)) (Consumes-trans a b c _ _ first second)

-- octets read into the room after others follow them
pub appended : (old room xs ys : List ℕ) (f n m : ℕ) → f ≡ length old → xs ≡ take (f + m) old ++ room
    → take f ys ≡ take f xs → take (f + n) ys ≡ old ++ take n (drop f ys)
appended old room xs ys f n m all grown same =
    let kept : take f xs ≡ old =
    ap (take f) (grown ∙ ap (λ l. l ++ room) (take_all (f + m) old (omega (arith, all))))
    ∙ take-append-le f old room (omega (arith, all)) ∙ take_all f old (omega (arith, all)) in
    take_more xs ys f n same ∙ ap (λ l. l ++ take n (drop f ys)) kept

-- the first octets, as many as a list has, are its own, whatever follows
pub take_front : (a x : List ℕ) (n : ℕ) → n ≡ length a → take n (a ++ x) ≡ a
take_front a x n all = take-append-le n a x (omega (arith, all)) ∙ take_all n a (omega (arith, all))

-- as many octets as were requested
pub length_part : (ys : List ℕ) (f n : ℕ) → f + n ≤ length ys → length (take n (drop f ys)) ≡ n
length_part ys f n fits = omega (arith, length-take {A = ℕ} n (drop f ys), length-drop {A = ℕ} f ys, fits)

-- How labels and names compare, piece by piece.
use Rattle.std.proofs.Common.{◌≡◌, ℕ, zero, suc, min, ◌+◌, ◌-◌, ◌<◌, ◌≤◌, ◌⊎◌, inl, inr, List, [], ◌∷◌, ◌++◌, length}
use Rattle.std.proofs.Common.{take, drop, reverse, refl, sym, ap, ◌∙◌, arith, Option, Some, None, MatchOption}
use Rattle.std.proofs.lemmas.List.{drop_all, length-drop, length-reverse, reverse-append, map-append}
use Rattle.std.proofs.lemmas.List.{length-map, length-append, take-append-drop}
use Rattle.std.specs.Cmp.{nat_cmp_is, ranks}
use Rattle.std.specs.Cmp.Lexicographic.{slice_cmp}
use Rattle.std.specs.declared.cmp.Ordering.{Ordering}
use Rattle.std.specs.declared.cmp.Ordering.TheVariants.{Less, Equal, Greater}
use Rattle.std.specs.Ordering.{MatchOrdering, nat_cmp, ordering_then}
use Rattle.octseq_dns_name.specs.Order.{lower_label, lower_labels, canonical, label_cmp, name_cmp}

-- ---- numbers

moved : (x y n : ℕ) (r : Ordering) → MatchOrdering r (x < y) (x ≡ y) (y < x) → r ≡ nat_cmp (x + n) (y + n)
moved x y n Less is = nat_cmp_is (x + n) (y + n) Less (omega (arith, is))
moved x y n Equal is = nat_cmp_is (x + n) (y + n) Equal (omega (arith, is))
moved x y n Greater is = nat_cmp_is (x + n) (y + n) Greater (omega (arith, is))

-- both numbers, with n added
pub nat_cmp_moved : (x y n : ℕ) → nat_cmp x y ≡ nat_cmp (x + n) (y + n)
nat_cmp_moved x y n = moved x y n (nat_cmp x y) (ranks x y)

zero_or_more : (m : ℕ) → (m ≡ 0) ⊎ (0 < m)
zero_or_more zero = inl refl
zero_or_more (suc m) = inr (omega arith)

-- the lesser of two is one of them
lesser : (a b i : ℕ) → i ≡ min a b → (i ≤ a) × (i ≤ b) × ((a ≡ i) ⊎ (b ≡ i))
lesser a b i is = (omega (arith, is), omega (arith, is), which (zero_or_more (a - b)))
  where
    which : (a - b ≡ 0) ⊎ (0 < a - b) → (a ≡ i) ⊎ (b ≡ i)
    which (inl less) = inl (omega (arith, is, less))
    which (inr more) = inr (omega (arith, is, more))

-- ---- labels

-- if one of them is empty, their lengths decide
nothing_left : (xs ys : List ℕ) → (length xs ≡ 0) ⊎ (length ys ≡ 0) → label_cmp xs ys ≡ nat_cmp (length xs) (length ys)
nothing_left [] [] is = nat_cmp_is 0 0 Equal refl
nothing_left [] (y ∷ ys) is = nat_cmp_is 0 (length (y ∷ ys)) Less (omega arith)
nothing_left (x ∷ xs) [] is = nat_cmp_is (length (x ∷ xs)) 0 Greater (omega arith)
nothing_left (x ∷ xs) (y ∷ ys) (inl is) = absurd (omega (arith, is))
nothing_left (x ∷ xs) (y ∷ ys) (inr is) = absurd (omega (arith, is))

-- from the end of the shorter of two labels on, they compare as their lengths do
pub label_cmp_end : (xs ys : List ℕ) (i : ℕ) → i ≡ min (length xs) (length ys)
    → label_cmp (drop i xs) (drop i ys) ≡ nat_cmp (length xs) (length ys)
label_cmp_end xs ys i least =
    let both = lesser (length xs) (length ys) i least in
    let few = both.0 in
    let fewer = both.1 in
    let left = length-drop i xs in
    let other = length-drop i ys in
    let x : length (drop i xs) + i ≡ length xs = omega (arith, left, few) in
    let y : length (drop i ys) + i ≡ length ys = omega (arith, other, fewer) in
    nothing_left (drop i xs) (drop i ys) (ended both.2)
    ∙ nat_cmp_moved (length (drop i xs)) (length (drop i ys)) i
    ∙ ap (λ n. nat_cmp n (length (drop i ys) + i)) x ∙ ap (nat_cmp (length xs)) y
  where
    ended : (length xs ≡ i) ⊎ (length ys ≡ i) → (length (drop i xs) ≡ 0) ⊎ (length (drop i ys) ≡ 0)
    ended (inl e) = inl (let l = length-drop i xs in omega (arith, l, e))
    ended (inr e) = inr (let l = length-drop i ys in omega (arith, l, e))

-- ---- lists of labels

then_assoc : (a b c : Ordering) → ordering_then (ordering_then a b) c ≡ ordering_then a (ordering_then b c)
then_assoc Less b c = refl
then_assoc Equal b c = refl
then_assoc Greater b c = refl

then_equal : (a : Ordering) → ordering_then a Equal ≡ a
then_equal Less = refl
then_equal Equal = refl
then_equal Greater = refl

-- fronts of one length decide, or what follows them
fronts : {X : Type 0} (R : X → X → Ordering) (xs ys more others : List X) → length xs ≡ length ys
    → slice_cmp R (xs ++ more) (ys ++ others) ≡ ordering_then (slice_cmp R xs ys) (slice_cmp R more others)
fronts R [] [] more others same = refl
fronts R [] (y ∷ ys) more others same = absurd (omega (arith, same))
fronts R (x ∷ xs) [] more others same = absurd (omega (arith, same))
fronts R (x ∷ xs) (y ∷ ys) more others same =
    ap (ordering_then (R x y)) (fronts R xs ys more others (omega (arith, same)))
    ∙ sym (then_assoc (R x y) (slice_cmp R xs ys) (slice_cmp R more others))

canonical_append : (xs more : List (List ℕ)) → canonical (xs ++ more) ≡ canonical more ++ canonical xs
canonical_append xs more = ap reverse (map-append lower_label xs more)
    ∙ reverse-append (lower_labels xs) (lower_labels more)

-- the canonical form of a name has as many labels as the name
pub canonical_length : (xs : List (List ℕ)) → length (canonical xs) ≡ length xs
canonical_length xs = length-reverse (lower_labels xs) ∙ length-map xs lower_label

-- the last labels decide, or those before them
pub name_cmp_append : (xs ys more others : List (List ℕ)) → length more ≡ length others
    → name_cmp (xs ++ more) (ys ++ others) ≡ ordering_then (name_cmp more others) (name_cmp xs ys)
name_cmp_append xs ys more others same =
    ap (λ l. slice_cmp (slice_cmp nat_cmp) l (canonical (ys ++ others))) (canonical_append xs more)
    ∙ ap (slice_cmp (slice_cmp nat_cmp) (canonical more ++ canonical xs)) (canonical_append ys others)
    ∙ fronts (slice_cmp nat_cmp) (canonical more) (canonical others) (canonical xs) (canonical ys)
    (canonical_length more ∙ same ∙ sym (canonical_length others))

-- so a label after others decides first
pub name_cmp_last : (xs ys : List (List ℕ)) (x y : List ℕ)
    → name_cmp (xs ++ x ∷ []) (ys ++ y ∷ []) ≡ ordering_then (label_cmp x y) (name_cmp xs ys)
name_cmp_last xs ys x y = name_cmp_append xs ys (x ∷ []) (y ∷ []) refl
    ∙ ap (λ o. ordering_then o (name_cmp xs ys)) (then_equal (label_cmp x y))

-- if one has no label, their lengths decide
no_labels : (xs ys : List (List ℕ)) → (length xs ≡ 0) ⊎ (length ys ≡ 0)
    → slice_cmp (slice_cmp nat_cmp) xs ys ≡ nat_cmp (length xs) (length ys)
no_labels [] [] is = nat_cmp_is 0 0 Equal refl
no_labels [] (y ∷ ys) is = nat_cmp_is 0 (length (y ∷ ys)) Less (omega arith)
no_labels (x ∷ xs) [] is = nat_cmp_is (length (x ∷ xs)) 0 Greater (omega arith)
no_labels (x ∷ xs) (y ∷ ys) (inl is) = absurd (omega (arith, is))
no_labels (x ∷ xs) (y ∷ ys) (inr is) = absurd (omega (arith, is))

name_cmp_none : (xs ys : List (List ℕ)) → (length xs ≡ 0) ⊎ (length ys ≡ 0)
    → name_cmp xs ys ≡ nat_cmp (length xs) (length ys)
name_cmp_none xs ys is =
    no_labels (canonical xs) (canonical ys) (none is)
    ∙ ap (λ n. nat_cmp n (length (canonical ys))) (canonical_length xs)
    ∙ ap (nat_cmp (length xs)) (canonical_length ys)
  where
    none : (length xs ≡ 0) ⊎ (length ys ≡ 0) → (length (canonical xs) ≡ 0) ⊎ (length (canonical ys) ≡ 0)
    none (inl e) = inl (canonical_length xs ∙ e)
    none (inr e) = inr (canonical_length ys ∙ e)

-- a list is its first items and those after them
parts : (m : ℕ) (xs : List (List ℕ)) → length (take m xs) + length (drop m xs) ≡ length xs
parts m xs = sym (length-append (take m xs) (drop m xs)) ∙ ap length (take-append-drop m xs)

-- The last labels of two names, as many as both have, decide, or else how many labels they have.
pub name_cmp_lasts : (xs ys : List (List ℕ)) (m n : ℕ) → m ≡ length xs - length ys → n ≡ length ys - length xs
    → name_cmp xs ys ≡ ordering_then (name_cmp (drop m xs) (drop n ys)) (nat_cmp (length xs) (length ys))
name_cmp_lasts xs ys m n m_is n_is =
    let left = length-drop m xs in
    let other = length-drop n ys in
    let whole = parts m xs in
    let all = parts n ys in
    let fit : length (drop m xs) ≡ length (drop n ys) = omega (arith, left, other, m_is, n_is) in
    let more : length (take n ys) + length (drop m xs) ≡ length ys = omega (arith, all, fit) in
    let none : (length (take m xs) ≡ 0) ⊎ (length (take n ys) ≡ 0) = ended (zero_or_more m) in
    ap (λ l. name_cmp l ys) (sym (take-append-drop m xs))
    ∙ ap (name_cmp (take m xs ++ drop m xs)) (sym (take-append-drop n ys))
    ∙ name_cmp_append (take m xs) (take n ys) (drop m xs) (drop n ys) fit
    ∙ ap (ordering_then (name_cmp (drop m xs) (drop n ys))) (name_cmp_none (take m xs) (take n ys) none
    ∙ nat_cmp_moved (length (take m xs)) (length (take n ys)) (length (drop m xs))
    ∙ ap (λ k. nat_cmp k (length (take n ys) + length (drop m xs))) whole ∙ ap (nat_cmp (length xs)) more)
  where
    ended : (m ≡ 0) ⊎ (0 < m) → (length (take m xs) ≡ 0) ⊎ (length (take n ys) ≡ 0)
    ended (inl e) = inl (ap (λ k. length (take k xs)) e)
    ended (inr e) = inr (let none : n ≡ 0 = omega (arith, m_is, n_is, e) in ap (λ k. length (take k ys)) none)

-- ---- equality

-- ---- walks

-- a drop, and then one more
drop_one : (i : ℕ) (xs : List (List ℕ)) → drop 1 (drop i xs) ≡ drop (i + 1) xs
drop_one zero xs = refl
drop_one (suc i) [] = sym (drop_all (suc i + 1) [] (omega arith))
drop_one (suc i) (x ∷ xs) = let same : suc (i + 1) ≡ suc i + 1 = omega arith in drop_one i xs
    ∙ ap (λ k. drop k (x ∷ xs)) same

-- what an iterator has left after one more item, or at its end
pub passes : {A : Type 0} (view : A → List ℕ) (xs ys all : List (List ℕ)) (i : ℕ) (r : Option A)
    → MatchOption r ((xs ≡ []) × (ys ≡ [])) (λ x. xs ≡ view x ∷ ys)
    → xs ≡ drop i all → ys ≡ drop (i + 1) all
passes view xs ys all i None is so_far = is.1 ∙ ap (drop 1) (sym is.0 ∙ so_far) ∙ drop_one i all
passes view xs ys all i (Some x) is so_far = ap (drop 1) (sym is ∙ so_far) ∙ drop_one i all

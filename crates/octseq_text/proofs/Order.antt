-- The order of well-formed octets is the order of their characters.
use Rattle.std.proofs.Common.{◌≡◌, ℕ, ◌+◌, ◌/◌, ◌%◌, ◌≤◌, ◌<◌, List, [], ◌∷◌}
use Rattle.std.proofs.Common.{◌++◌, length, refl, sym, ◌∙◌, ap, arith, ⊎_elim, nat_eq}
use Rattle.std.proofs.Math.Nat.{div-div-eq-div-mul}
use Rattle.std.proofs.lemmas.Bool.{cases_lt, cases_order}
use Rattle.std.proofs.lemmas.Bool.Decides.{nat_tests}
use Rattle.std.proofs.lemmas.Cmp.{nat_list_cmp_total}
use Rattle.std.proofs.lemmas.Map.Text.{is_eq-slice_cmp}
use Rattle.std.specs.Cmp.Lexicographic.{pointwise, slice_cmp}
use Rattle.std.specs.Ordering.{nat_cmp, ordering_then, ordering_reverse, is_eq}
use Rattle.std.specs.declared.cmp.Ordering.{Ordering}
use Rattle.std.specs.declared.cmp.Ordering.TheVariants.{Less, Equal, Greater}
use Rattle.octseq_utf8.specs.Encoding.{encoding_of}
use Rattle.octseq_utf8.specs.Text.{IsWellFormed, chars, octets_of}
use Rattle.octseq_utf8.proofs.Numbers.{encoding_some, encoding_of_1, encoding_of_2, encoding_of_3, encoding_of_4}
use Rattle.octseq_utf8.proofs.Texts.{octets_of-chars}

nat_cmp_less : (a b : ℕ) → a < b → nat_cmp a b ≡ Less
nat_cmp_less a b h = grind (arith, nat_tests)

nat_cmp_same : (a : ℕ) → nat_cmp a a ≡ Equal
nat_cmp_same a = grind (arith, nat_tests)

nat_cmp_greater : (a b : ℕ) → b < a → nat_cmp a b ≡ Greater
nat_cmp_greater a b h = grind (arith, nat_tests)

-- by the first, then by what follows

less : (a b : ℕ) (o : Ordering) → a < b → ordering_then (nat_cmp a b) o ≡ Less
less a b o h = ap (λ x. ordering_then x o) (nat_cmp_less a b h)

less_or : (a b : ℕ) (o : Ordering) → a ≤ b → (a ≡ b → o ≡ Less) → ordering_then (nat_cmp a b) o ≡ Less
less_or a b o h then =
    ⊎_elim
    (λ l. less a b o l)
    (λ g. let e : a ≡ b = omega arith in ap (λ x. ordering_then (nat_cmp x b) o) e
    ∙ ap (λ x. ordering_then x o) (nat_cmp_same b) ∙ then e)
    (cases_lt a b)

-- equal fronts don't decide
after : (xs y z : List ℕ) → slice_cmp nat_cmp (xs ++ y) (xs ++ z) ≡ slice_cmp nat_cmp y z
after [] y z = refl
after (x ∷ xs) y z = ap (λ o. ordering_then o (slice_cmp nat_cmp (xs ++ y) (xs ++ z))) (nat_cmp_same x) ∙ after xs y z

-- a lesser character has the lesser encoding, even if both have the same width

abbrev IsLess : ℕ → ℕ → List ℕ → List ℕ → Type 0
IsLess c d y z = slice_cmp nat_cmp (encoding_of c ++ y) (encoding_of d ++ z) ≡ Less

width_2 : (c d : ℕ) (y z : List ℕ) → c < d → 0x80 ≤ c → d < 0x800 → IsLess c d y z
width_2 c d y z h low high =
    rw (encoding_of_2 c low (omega arith), encoding_of_2 d (omega arith) high)
    (less_or (192 + c / 64) (192 + d / 64) _ (omega arith) (λ e. less (128 + c % 64) (128 + d % 64) _ (omega arith)))

width_3 : (c d : ℕ) (y z : List ℕ) → c < d → 0x800 ≤ c → d < 0x1_0000 → IsLess c d y z
width_3 c d y z h low high =
    let p : c / 64 / 64 ≡ c / 4096 = div-div-eq-div-mul c 64 64 in
    let q : d / 64 / 64 ≡ d / 4096 = div-div-eq-div-mul d 64 64 in
    rw (encoding_of_3 c low (omega arith), encoding_of_3 d (omega arith) high)
    (less_or (224 + c / 4096) (224 + d / 4096) _ (omega arith) (λ e.
    less_or (128 + c / 64 % 64) (128 + d / 64 % 64) _ (omega arith)
    (λ f. less (128 + c % 64) (128 + d % 64) _ (omega arith))))

width_4 : (c d : ℕ) (y z : List ℕ) → c < d → 0x1_0000 ≤ c → IsLess c d y z
width_4 c d y z h low =
    let p : c / 64 / 64 ≡ c / 4096 = div-div-eq-div-mul c 64 64 in
    let q : d / 64 / 64 ≡ d / 4096 = div-div-eq-div-mul d 64 64 in
    let r : c / 4096 / 64 ≡ c / 262144 = div-div-eq-div-mul c 4096 64 in
    let s : d / 4096 / 64 ≡ d / 262144 = div-div-eq-div-mul d 4096 64 in
    rw (encoding_of_4 c low, encoding_of_4 d (omega arith))
    (less_or (240 + c / 262144) (240 + d / 262144) _ (omega arith) (λ e.
    less_or (128 + c / 4096 % 64) (128 + d / 4096 % 64) _ (omega arith) (λ f.
    less_or (128 + c / 64 % 64) (128 + d / 64 % 64) _ (omega arith)
    (λ g. less (128 + c % 64) (128 + d % 64) _ (omega arith)))))

below : (c d : ℕ) (y z : List ℕ) → c < d → IsLess c d y z
below c d y z h =
    ⊎_elim from_1 (λ c2. ⊎_elim (from_2 c2)
    (λ c3. ⊎_elim (from_3 c3) (λ c4. width_4 c d y z h c4) (cases_lt c 0x1_0000)) (cases_lt c 0x800))
    (cases_lt c 0x80)
  where
    from_1 : c < 0x80 → IsLess c d y z
    from_1 high =
        rw (encoding_of_1 c high)
        (⊎_elim (λ d1. rw (encoding_of_1 d d1) (less c d _ h)) (λ d2.
        ⊎_elim (λ d3. rw (encoding_of_2 d d2 d3) (less c (192 + d / 64) _ (omega arith))) (λ d3.
        ⊎_elim (λ d4. rw (encoding_of_3 d d3 d4) (less c (224 + d / 4096) _ (omega arith))) (λ d4.
        rw (encoding_of_4 d d4) (less c (240 + d / 262144) _ (omega arith))) (cases_lt d 0x1_0000)) (cases_lt d 0x800))
        (cases_lt d 0x80))

    from_2 : 0x80 ≤ c → c < 0x800 → IsLess c d y z
    from_2 low high =
        ⊎_elim (λ d2. width_2 c d y z h low d2) (λ d3.
        ⊎_elim (λ d4. rw (encoding_of_2 c low high, encoding_of_3 d d3 d4)
        (less (192 + c / 64) (224 + d / 4096) _ (omega arith))) (λ d4.
        rw (encoding_of_2 c low high, encoding_of_4 d d4) (less (192 + c / 64) (240 + d / 262144) _ (omega arith)))
        (cases_lt d 0x1_0000)) (cases_lt d 0x800)

    from_3 : 0x800 ≤ c → c < 0x1_0000 → IsLess c d y z
    from_3 low high =
        ⊎_elim (λ d3. width_3 c d y z h low d3) (λ d4.
        rw (encoding_of_3 c low high, encoding_of_4 d d4) (less (224 + c / 4096) (240 + d / 262144) _ (omega arith)))
        (cases_lt d 0x1_0000)

-- the first characters decide, then the rest
first_decides : (c d : ℕ) (y z : List ℕ) → slice_cmp nat_cmp (encoding_of c ++ y) (encoding_of d ++ z)
    ≡ ordering_then (nat_cmp c d) (slice_cmp nat_cmp y z)
first_decides c d y z =
    ⊎_elim
    (λ e. ap (λ b. slice_cmp nat_cmp (encoding_of b ++ y) (encoding_of d ++ z)) e ∙ after (encoding_of d) y z
    ∙ sym (ap (λ b. ordering_then (nat_cmp b d) (slice_cmp nat_cmp y z)) e
    ∙ ap (λ o. ordering_then o (slice_cmp nat_cmp y z)) (nat_cmp_same d)))
    (⊎_elim
    (λ l. below c d y z l ∙ sym (less c d _ l))
    (λ g. nat_list_cmp_total.antisymm (encoding_of c ++ y) (encoding_of d ++ z) ∙ ap ordering_reverse (below d c z y g)
    ∙ sym (ap (λ o. ordering_then o (slice_cmp nat_cmp y z)) (nat_cmp_greater c d g))))
    (cases_order c d)

-- nothing is before what isn't empty
nothing_before : (e z : List ℕ) → 1 ≤ length e → slice_cmp nat_cmp [] (e ++ z) ≡ Less
nothing_before [] z some = absurd (omega arith)
nothing_before (a ∷ e) z some = refl

octets_order : (cs ds : List ℕ) → slice_cmp nat_cmp (octets_of cs) (octets_of ds) ≡ slice_cmp nat_cmp cs ds
octets_order [] [] = refl
octets_order [] (d ∷ ds) = nothing_before (encoding_of d) (octets_of ds) (encoding_some d)
octets_order (c ∷ cs) [] = nat_list_cmp_total.antisymm (encoding_of c ++ octets_of cs) []
    ∙ ap ordering_reverse (nothing_before (encoding_of c) (octets_of cs) (encoding_some c))
octets_order (c ∷ cs) (d ∷ ds) = first_decides c d (octets_of cs) (octets_of ds) ∙ ap (ordering_then (nat_cmp c d))
    (octets_order cs ds)

-- the order of the octets is the order of the characters
pub text_order : (x y : List ℕ) → IsWellFormed x → IsWellFormed y
    → slice_cmp nat_cmp x y ≡ slice_cmp nat_cmp (chars x) (chars y)
text_order x y v w =
    ap (λ z. slice_cmp nat_cmp z y) (sym (octets_of-chars x v)) ∙ ap (λ z. slice_cmp nat_cmp (octets_of (chars x)) z)
    (sym (octets_of-chars y w)) ∙ octets_order (chars x) (chars y)

-- octets are equal exactly if their characters are
pub text_equal : (x y : List ℕ) → IsWellFormed x → IsWellFormed y
    → pointwise nat_eq x y ≡ pointwise nat_eq (chars x) (chars y)
text_equal x y v w = sym (is_eq-slice_cmp x y) ∙ ap is_eq (text_order x y v w) ∙ is_eq-slice_cmp (chars x) (chars y)

-- Reading and writing groups of 7 bits.
use Rattle.std.proofs.Common.{◌≡◌, ◌⊎◌, ℕ, zero, suc, ◌+◌, ◌-◌, ◌*◌, ◌/◌, ◌%◌, ◌^◌, ◌<◌, ◌≤◌, List, [], ◌∷◌, ◌++◌}
use Rattle.std.proofs.Common.{length, take, drop, get_or, set, refl, sym, ap, ◌∙◌, subst, arith, inl, inr}
use Rattle.std.proofs.Common.{length-take-le, get_or-take, drop-cons, append_assoc, take-suc-set, length-set}
use Rattle.std.proofs.Math.Nat.{pow-suc}
use Rattle.std.proofs.lemmas.Bool.{lt-ltb, le-ltb}
use Rattle.std.specs.Prelude.{slice_index, nat_lt, if◌then◌else◌}
use Rattle.octseq_format.specs.Choice.{first_of_two, second_of_two}
use Rattle.octseq_format.specs.Leb128.{IsChained, leb128, groups, leb128_octets, IsLeb128, same_chained}
use Rattle.octseq_format.specs.Varying.{Leads, NoneLeads}

-- ---- the number, from the last octet to the first

pub leb128_at : (xs : List ℕ) (i : ℕ) → i < length xs
    → leb128 (drop i xs) ≡ leb128 (drop (i + 1) xs) * 128 + get_or xs i 0 % 128
unfolding leb128
leb128_at xs i less =
    let next : suc i ≡ i + 1 = omega arith in
    let more = ap (λ i. leb128 (drop i xs)) next in
    ap leb128 (drop-cons xs i 0 less) ∙ omega (arith, more)

pub leb128_end : (xs : List ℕ) → leb128 (drop (length xs) xs) ≡ 0
unfolding leb128
leb128_end [] = refl
leb128_end (x ∷ xs) = leb128_end xs

-- what is left of the octets says no more than all of them
pub leb128_most : (xs : List ℕ) (i : ℕ) → leb128 (drop i xs) ≤ leb128 xs
unfolding leb128
leb128_most xs zero = omega arith
leb128_most [] (suc i) = omega arith
leb128_most (x ∷ xs) (suc i) = let more = leb128_most xs i in omega (arith, more)

-- ---- which octets are chained

pub chained_at : (xs : List ℕ) (i : ℕ) → i < length xs → ((j : ℕ) → j < i → 128 ≤ slice_index xs j)
    → slice_index xs i < 128 → IsChained (take (suc i) xs)
unfolding IsChained
chained_at [] i less before last = absurd (omega arith)
chained_at (x ∷ xs) zero less before last = inl (last, refl)
chained_at (x ∷ xs) (suc i) less before last =
    let rest : (j : ℕ) → j < i → 128 ≤ slice_index xs j = λ j below. before (suc j) (omega (arith, below)) in
    inr (before 0 (omega arith), chained_at xs i (omega (arith, less)) rest last)

pub chained_to : (xs : List ℕ) (i : ℕ) → i < length xs → ((j : ℕ) → j < i → 128 ≤ slice_index xs j)
    → slice_index xs i < 128 → IsChained (take (i + 1) xs)
chained_to xs i less before last =
    let next : suc i ≡ i + 1 = omega arith in
    subst (λ n. IsChained (take n xs)) next (chained_at xs i less before last)

-- octets that say that others follow don't end a chain
pub not_chained : (xs : List ℕ) (i k : ℕ) → ((j : ℕ) → j < i → 128 ≤ slice_index xs j) → k ≤ i → k ≤ length xs
    → IsChained (take k xs) → ⊥
unfolding IsChained
not_chained xs i zero before within few chained = chained
not_chained [] i (suc k) before within few chained = chained
not_chained (x ∷ xs) i (suc k) before within few (inl a) =
    let here = before 0 (omega (arith, within)) in
    let last = a.0 in
    omega (arith, here, last)
not_chained (x ∷ xs) i (suc k) before within few (inr a) =
    not_chained xs (i - 1) k (λ j below. before (suc j) (omega (arith, below))) (omega (arith, within))
    (omega (arith, few)) a.1

-- ---- what leads

pub chain_leads : (most bits : ℕ) (xs : List ℕ) (k n : ℕ) → k ≤ length xs → k ≤ most → IsChained (take k xs)
    → n ≡ leb128 (take k xs) → n < 2 ^ bits → n < 2 ^ 64 → Leads (IsLeb128 most bits) leb128 xs n k
chain_leads most bits xs k n few within chained value bounded small =
    let long = length-take-le k xs few in
    record {
      few = few;
      whole = record {
        chained = chained;
        few = omega (arith, long, within);
        bounded = omega (arith, value, bounded);
        small = omega (arith, value, small);
      };
      value = value;
    }

-- no chain
pub no_chain : (most bits : ℕ) (xs : List ℕ)
    → ((k : ℕ) → k ≤ length xs → k ≤ most → IsChained (take k xs) → ⊥) → NoneLeads (IsLeb128 most bits) xs
no_chain most bits xs none k few whole =
    let long = length-take-le k xs few in
    let within = whole.few in
    none k few (omega (arith, long, within)) whole.chained

-- a chain of a number that is too large
pub too_large : (most bits : ℕ) (xs : List ℕ) (k : ℕ) → k ≤ length xs → IsChained (take k xs)
    → (2 ^ 64 ≤ leb128 (take k xs)) ⊎ (2 ^ bits ≤ leb128 (take k xs)) → NoneLeads (IsLeb128 most bits) xs
too_large most bits xs k few chained (inl large) j less whole =
    let same = ap (λ k. leb128 (take k xs)) (same_chained xs k j few less chained whole.chained) in
    let small = whole.small in
    omega (arith, same, small, large)
too_large most bits xs k few chained (inr large) j less whole =
    let same = ap (λ k. leb128 (take k xs)) (same_chained xs k j few less chained whole.chained) in
    let small = whole.bounded in
    omega (arith, same, small, large)

-- ---- the octets of a number, group by group

group_more : (k n : ℕ) → 128 ≤ n → groups (suc k) n ≡ (128 + n % 128) ∷ groups k (n / 128)
unfolding groups
group_more k n large = second_of_two _ _ (le-ltb n 128 large)

group_last : (k n : ℕ) → n < 128 → groups k n ≡ n ∷ []
unfolding groups
group_last zero n small = refl
group_last (suc k) n small = first_of_two _ _ (lt-ltb n 128 small)

pub room_more : (len n : ℕ) → len ≤ 9 → 128 ≤ n → n < 128 ^ (10 - len) → len < 9
room_more len n room large small = by (9 - len) refl where
  by : (m : ℕ) → 9 - len ≡ m → len < 9
  by zero none =
      let one : 10 - len ≡ 1 = omega (arith, none, room) in
      let power = ap (λ e. 128 ^ e) one in
      absurd (omega (arith, power, large, small))
  by (suc m) some = omega (arith, some)

pub small_more : (len n : ℕ) → len < 9 → n < 128 ^ (10 - len) → n / 128 < 128 ^ (10 - (len + 1))
small_more len n room small =
    let one : 10 - len ≡ suc (10 - (len + 1)) = omega (arith, room) in
    let power = ap (λ e. 128 ^ e) one ∙ pow-suc 128 (10 - (len + 1)) in
    omega (arith, small, power)

add_group : (xs : List ℕ) (len x : ℕ) → len < length xs → take (len + 1) (set xs len x) ≡ take len xs ++ x ∷ []
add_group xs len x less =
    let next : len + 1 ≡ suc len = omega arith in
    ap (λ n. take n (set xs len x)) next ∙ take-suc-set xs len x less

pub made_more : (xs all : List ℕ) (len n : ℕ) → length xs ≡ 10 → len < 9 → 128 ≤ n
    → take len xs ++ groups (9 - len) n ≡ all
    → take (len + 1) (set xs len (128 + n % 128)) ++ groups (9 - (len + 1)) (n / 128) ≡ all
made_more xs all len n many room large so_far =
    let one : 9 - len ≡ suc (9 - (len + 1)) = omega (arith, room) in
    let x = 128 + n % 128 in
    let more = groups (9 - (len + 1)) (n / 128) in
    let first = ap (λ k. groups k n) one ∙ group_more (9 - (len + 1)) n large in
    ap (λ xs. xs ++ more) (add_group xs len x (omega (arith, many, room)))
    ∙ append_assoc (take len xs) (x ∷ []) more ∙ ap (λ ys. take len xs ++ ys) (sym first) ∙ so_far

pub made_last : (xs all : List ℕ) (len n : ℕ) → length xs ≡ 10 → len ≤ 9 → n < 128
    → take len xs ++ groups (9 - len) n ≡ all → take (len + 1) (set xs len n) ≡ all
made_last xs all len n many room small so_far =
    add_group xs len n (omega (arith, many, room))
    ∙ ap (λ ys. take len xs ++ ys) (sym (group_last (9 - len) n small)) ∙ so_far

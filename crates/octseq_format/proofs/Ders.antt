-- Reading and writing a length of DER.
use Rattle.std.proofs.Common.{◌≡◌, ℕ, suc, ◌+◌, ◌-◌, ◌/◌, ◌%◌, ◌^◌, ◌<◌, ◌≤◌, List, [], ◌∷◌, length, take, drop}
use Rattle.std.proofs.Common.{refl, sym, ap, ◌∙◌, arith, get_or-take, length-take-le}
use Rattle.std.specs.Int.{w8, w64, to_be_bytes}
use Rattle.std.specs.Prelude.{slice_index, slice_range}
use Rattle.octseq.specs.Integer.{be, octets_be}
use Rattle.octseq.proofs.Written.{length_be, value_be, are_be}
use Rattle.octseq_format.specs.Der.{IsDer, der_long, der_length, der_octets, significant, some_der}
use Rattle.octseq_format.specs.Der.{der_alone, der_following, der_itself, der_followed, der_octets_short}
use Rattle.octseq_format.specs.Der.{der_octets_long, back_significant}
use Rattle.octseq_format.specs.Varying.{Leads, NoneLeads, long_leads, none_long, after_one}
use Rattle.octseq_format.proofs.EightOctets.{last_be}

-- ---- what leads

-- fewer octets than the first one says
pub short : (xs : List ℕ) → length xs < der_long (slice_index xs 0) → NoneLeads IsDer xs
short xs few k within whole = none_long der_long some_der xs few k within whole.long

pub empty : (xs : List ℕ) → length xs ≡ 0 → NoneLeads IsDer xs
empty xs none = let some = some_der (slice_index xs 0) in short xs (omega (arith, none, some))

-- fewer than it says after it
pub cut : (first : ℕ) (xs : List ℕ) → slice_index xs 0 ≡ first → 128 ≤ first → length xs < first - 127
    → NoneLeads IsDer xs
cut first xs is large few =
    let says = ap der_long is ∙ der_following first large in
    short xs (omega (arith, few, says))

-- if a whole encoding leads, its first octet is this one, and says how many there are
leading_at : (first : ℕ) (xs : List ℕ) (k : ℕ) → slice_index xs 0 ≡ first → 128 ≤ first → k ≤ length xs
    → IsDer (take k xs) → (k ≡ first - 127) × (slice_index (take k xs) 0 ≡ first)
leading_at first xs k is large few whole =
    let all = length-take-le k xs few in
    let some = some_der (slice_index (take k xs) 0) in
    let long = whole.long in
    let head : slice_index (take k xs) 0 ≡ first = get_or-take k xs 0 0 (omega (arith, all, some, long)) ∙ is in
    let says = ap der_long head ∙ der_following first large in
    (omega (arith, all, long, says), head)

-- too many
pub many : (first : ℕ) (xs : List ℕ) → slice_index xs 0 ≡ first → 136 < first → NoneLeads IsDer xs
many first xs is large k few whole =
    let found = leading_at first xs k is (omega (arith, large)) few whole in
    let all = length-take-le k xs few in
    let most = whole.few in
    let count = found.0 in
    omega (arith, all, most, count, large)

second : (xs : List ℕ) → slice_index xs 1 ≡ slice_index (drop 1 xs) 0
second [] = refl
second (x ∷ xs) = refl

after_first : (xs : List ℕ) (k : ℕ) → 0 < k → k ≤ length xs → drop 1 (take k xs) ≡ slice_range xs 1 k
after_first xs k some few =
    let one : k ≡ suc (k - 1) = omega (arith, some) in
    ap (λ k. drop 1 (take k xs)) one ∙ after_one xs (k - 1) (omega (arith, some, few))
    ∙ ap (λ k. slice_range xs 1 k) (sym one)

-- the first of them is zero, or there is none
pub zero_head : (first k : ℕ) (xs : List ℕ) → slice_index xs 0 ≡ first → 128 ≤ first → k ≡ first - 127
    → slice_index (slice_range xs 1 k) 0 ≡ 0 → NoneLeads IsDer xs
zero_head first k xs is large count none j few whole =
    let found = leading_at first xs j is large few whole in
    let head = found.1 in
    let same : j ≡ k = found.0 ∙ sym count in
    let after = after_first xs j (omega (arith, same, count, large)) few in
    let next = second (take j xs) ∙ ap (λ ys. slice_index ys 0) after
    ∙ ap (λ k. slice_index (slice_range xs 1 k) 0) same in
    let some = whole.head (omega (arith, head, large)) in
    omega (arith, next, none, some)

-- they say a length below 128
pub small : (first k : ℕ) (xs : List ℕ) → slice_index xs 0 ≡ first → 128 ≤ first → k ≡ first - 127
    → be (slice_range xs 1 k) < 128 → NoneLeads IsDer xs
small first k xs is large count few j within whole =
    let found = leading_at first xs j is large within whole in
    let head = found.1 in
    let same : j ≡ k = found.0 ∙ sym count in
    let value = der_followed (take j xs) (omega (arith, head, large))
    ∙ ap be (after_first xs j (omega (arith, same, count, large)) within) ∙ ap (λ k. be (slice_range xs 1 k)) same in
    let enough = whole.large (omega (arith, head, large)) in
    omega (arith, value, few, enough)

-- a length that is the first octet
pub first_itself : (first : ℕ) (xs : List ℕ) → slice_index xs 0 ≡ first → first < 128 → 0 < length xs
    → Leads IsDer der_length xs first 1
first_itself first xs is few some =
    let head : slice_index (take 1 xs) 0 ≡ first = get_or-take 1 xs 0 0 (omega arith) ∙ is in
    let all = length-take-le 1 xs some in
    record {
      few = some;
      whole = record {
        long = long_leads der_long some_der xs 1 some (sym (der_alone first few) ∙ ap der_long (sym is));
        few = omega (arith, all);
        head = λ large. absurd (omega (arith, head, few, large));
        large = λ large. absurd (omega (arith, head, few, large));
      };
      value = sym head ∙ sym (der_itself (take 1 xs) (omega (arith, head, few)));
    }

-- a length after it
pub leads : (first k : ℕ) (xs : List ℕ) → slice_index xs 0 ≡ first → 128 ≤ first → first ≤ 136 → k ≡ first - 127
    → k ≤ length xs → (n : ℕ) → n ≡ be (slice_range xs 1 k) → 128 ≤ n → 0 < slice_index (slice_range xs 1 k) 0
    → Leads IsDer der_length xs n k
leads first k xs is large most count few n value enough next =
    let some : 0 < k = omega (arith, count, large) in
    let head : slice_index (take k xs) 0 ≡ first = get_or-take k xs 0 0 some ∙ is in
    let all = length-take-le k xs few in
    let after = after_first xs k some few in
    let says = der_followed (take k xs) (omega (arith, head, large)) ∙ ap be after in
    let then = second (take k xs) ∙ ap (λ ys. slice_index ys 0) after in
    record {
      few = few;
      whole = record {
        long = long_leads der_long some_der xs k few (count ∙ sym (der_following first large) ∙ ap der_long (sym is));
        few = omega (arith, all, count, most);
        head = λ _. omega (arith, then, next);
        large = λ _. omega (arith, says, value, enough);
      };
      value = value ∙ sym says;
    }

-- ---- the octets of a length, by its size, as std makes them

octets_of : (k n : ℕ) → k ≤ 8 → n < 256 ^ k → 128 ≤ n → 0 < slice_index (octets_be k n) 0
    → der_octets n ≡ (128 + k) ∷ slice_range (to_be_bytes w64 n) (8 - k) 8
octets_of k n few fits large head =
    let ys = octets_be k n in
    let are = are_be k n fits in
    let all = length_be k n in
    let same : significant (octets_be 8 n) ≡ ys =
    ap (λ n. significant (octets_be 8 n)) (sym (value_be k n fits))
    ∙ back_significant ys are.each (omega (arith, all, few)) head in
    der_octets_long n large ∙ ap (λ ys. (128 + length ys) ∷ ys) same ∙ ap (λ m. (128 + m) ∷ ys) all
    ∙ ap (λ ys. (128 + k) ∷ ys) (sym (last_be k n few))

pub made_0 : (n : ℕ) → n < 128 → der_octets n ≡ to_be_bytes w8 n
made_0 n few = der_octets_short n few ∙ (let same : n ≡ n % 256 = omega (arith, few) in ap (λ x. x ∷ []) same)

pub made_1 : (n : ℕ) → 128 ≤ n → n < 256 ^ 1 → der_octets n ≡ 129 ∷ slice_range (to_be_bytes w64 n) 7 8
unfolding octets_be
made_1 n large few = octets_of 1 n (omega arith) few (omega (arith, large)) (omega (arith, large, few))

pub made_2 : (n : ℕ) → 256 ^ 1 ≤ n → n < 256 ^ 2 → der_octets n ≡ 130 ∷ slice_range (to_be_bytes w64 n) 6 8
unfolding octets_be
made_2 n large few = octets_of 2 n (omega arith) few (omega (arith, large)) (omega (arith, large, few))

pub made_3 : (n : ℕ) → 256 ^ 2 ≤ n → n < 256 ^ 3 → der_octets n ≡ 131 ∷ slice_range (to_be_bytes w64 n) 5 8
unfolding octets_be
made_3 n large few = octets_of 3 n (omega arith) few (omega (arith, large)) (omega (arith, large, few))

pub made_4 : (n : ℕ) → 256 ^ 3 ≤ n → n < 256 ^ 4 → der_octets n ≡ 132 ∷ slice_range (to_be_bytes w64 n) 4 8
unfolding octets_be
made_4 n large few = octets_of 4 n (omega arith) few (omega (arith, large)) (omega (arith, large, few))

pub made_5 : (n : ℕ) → 256 ^ 4 ≤ n → n < 256 ^ 5 → der_octets n ≡ 133 ∷ slice_range (to_be_bytes w64 n) 3 8
unfolding octets_be
made_5 n large few = octets_of 5 n (omega arith) few (omega (arith, large)) (omega (arith, large, few))

pub made_6 : (n : ℕ) → 256 ^ 5 ≤ n → n < 256 ^ 6 → der_octets n ≡ 134 ∷ slice_range (to_be_bytes w64 n) 2 8
unfolding octets_be
made_6 n large few = octets_of 6 n (omega arith) few (omega (arith, large)) (omega (arith, large, few))

pub made_7 : (n : ℕ) → 256 ^ 6 ≤ n → n < 256 ^ 7 → der_octets n ≡ 135 ∷ slice_range (to_be_bytes w64 n) 1 8
unfolding octets_be
made_7 n large few = octets_of 7 n (omega arith) few (omega (arith, large)) (omega (arith, large, few))

pub made_8 : (n : ℕ) → 256 ^ 7 ≤ n → n < 256 ^ 8 → der_octets n ≡ 136 ∷ slice_range (to_be_bytes w64 n) 0 8
unfolding octets_be
made_8 n large few = octets_of 8 n (omega arith) few (omega (arith, large)) (omega (arith, large, few))

-- how a length is written
pub ruleset der_made = (made_0, made_1, made_2, made_3, made_4, made_5, made_6, made_7, made_8)

-- Binary search among targets in their order.
use Rattle.std.proofs.Common.{◌≡◌, ◌⊎◌, inl, inr, true, false, ℕ, ◌+◌, ◌*◌, ◌/◌, ◌^◌, ◌<◌, ◌≤◌, List, length, refl, sym}
use Rattle.std.proofs.Common.{ap, ◌∙◌, subst, arith, true≢false, eq-or-lt_of_le, lt_of_not-le, mul_assoc}
use Rattle.std.proofs.Common.{mul-le-mul_left, mul-le-mul_right, pow-suc, nat_cmp, is_eq, is_lt, slice_index_or}
use Rattle.std.proofs.lemmas.Cmp.{nat_list_cmp_total, tied_itself}
use Rattle.std.proofs.lemmas.List.{get_or_default}
use Rattle.std.proofs.lemmas.Map.Lookups.{exact_bytes}
use Rattle.std.proofs.Math.Decide.{dec_le}
use Rattle.std.proofs.Math.Nat.{pow-le-pow_right}
use Rattle.std.specs.Cmp.Lexicographic.{slice_cmp}
use Rattle.std.specs.Ordering.{ordering_reverse}
use Rattle.std.specs.declared.cmp.Ordering.{Ordering}
use Rattle.octseq_dns_compress.proofs.Words.{key_of, key_cmp, AreTargets, HasKeyAt, HasNoKey, Target}

pub greater_reported : (reported : Ordering) → is_lt reported ≡ false → is_eq reported ≡ false
    → reported ≡ Ordering.Greater
greater_reported Ordering.Less other differ = absurd (true≢false other)
greater_reported Ordering.Equal other differ = absurd (true≢false differ)
greater_reported Ordering.Greater other differ = refl

pub greater_not_less : (reported : Ordering) → reported ≡ Ordering.Greater → ¬ (reported ≡ Ordering.Less)
greater_not_less reported greater less = true≢false (sym (ap is_lt less) ∙ ap is_lt greater)

pub less_reported : (reported : Ordering) → is_lt reported ≡ true → reported ≡ Ordering.Less
less_reported Ordering.Less lt = refl
less_reported Ordering.Equal lt = absurd (true≢false (sym lt))
less_reported Ordering.Greater lt = absurd (true≢false (sym lt))

module _ (octets : List ℕ) (targets : List Target) (key : List ℕ) (sorted : AreTargets octets targets) where
  -- what is before a target that is before the key is before it too
  pub before_more : (mid : ℕ) (d : Target) (reported : Ordering) → mid < length targets
      → reported ≡ key_cmp octets (slice_index_or targets mid d) key → is_lt reported ≡ true
      → (k : ℕ) (e : Target) → k < mid + 1 → key_cmp octets (slice_index_or targets k e) key ≡ Ordering.Less
  before_more mid d reported inside is lt k e before = at_most (eq-or-lt_of_le (omega (arith, before))) where
    less : key_cmp octets (slice_index_or targets mid e) key ≡ Ordering.Less
    less = subst (λ t. key_cmp octets t key ≡ Ordering.Less) (get_or_default targets mid d e inside)
        (sym is ∙ less_reported reported lt)

    at_most : (k ≡ mid) ⊎ (k < mid) → key_cmp octets (slice_index_or targets k e) key ≡ Ordering.Less
    at_most (inl same) =
        subst (λ t. key_cmp octets t key ≡ Ordering.Less) (ap (λ k. slice_index_or targets k e) (sym same)) less
    at_most (inr below) =
        nat_list_cmp_total.trans (key_of octets (slice_index_or targets k e))
        (key_of octets (slice_index_or targets mid e)) key (sorted.less k mid e below inside) less

  -- and what is after a target that is after the key is after it too
  pub after_more : (mid : ℕ) (d : Target) (reported : Ordering) → mid < length targets
      → reported ≡ key_cmp octets (slice_index_or targets mid d) key → is_lt reported ≡ false → is_eq reported ≡ false
      → (k : ℕ) (e : Target) → mid ≤ k → k < length targets
      → key_cmp octets (slice_index_or targets k e) key ≡ Ordering.Greater
  after_more mid d reported inside is other differ k e from within = at_least (eq-or-lt_of_le from) where
    greater : key_cmp octets (slice_index_or targets mid e) key ≡ Ordering.Greater
    greater = subst (λ t. key_cmp octets t key ≡ Ordering.Greater) (get_or_default targets mid d e inside)
        (sym is ∙ greater_reported reported other differ)

    at_least : (mid ≡ k) ⊎ (mid < k) → key_cmp octets (slice_index_or targets k e) key ≡ Ordering.Greater
    at_least (inl same) =
        subst (λ t. key_cmp octets t key ≡ Ordering.Greater) (ap (λ k. slice_index_or targets k e) same) greater
    at_least (inr above) =
        let here = key_of octets (slice_index_or targets mid e) in
        let there = key_of octets (slice_index_or targets k e) in
        let less = nat_list_cmp_total.antisymm key here ∙ ap ordering_reverse greater in
        let beyond = nat_list_cmp_total.trans key here there less (sorted.less mid k e above within) in
        nat_list_cmp_total.antisymm there key ∙ ap ordering_reverse beyond

-- each step at least halves what is left
pub halved : (ticks more left fewer all : ℕ) → more ≡ ticks + 1 → fewer ≤ left / 2 → 2 ^ ticks * left ≤ all
    → 2 ^ more * fewer ≤ all
halved ticks more left fewer all next half few =
    let power : 2 ^ more ≡ 2 ^ ticks * 2 = ap (λ n. 2 ^ n) (omega (arith, next)) ∙ pow-suc 2 ticks in
    let same : 2 ^ more * fewer ≡ 2 ^ ticks * (2 * fewer) =
    ap (λ p. p * fewer) power ∙ mul_assoc (2 ^ ticks) 2 fewer in
    let less : 2 ^ ticks * (2 * fewer) ≤ 2 ^ ticks * left = mul-le-mul_left (2 ^ ticks) (omega (arith, half)) in
    omega (arith, same, less, few)

pub few_halves : (ticks left : ℕ) → 0 < left → 2 ^ ticks * left ≤ 16384 → ticks ≤ 14
few_halves ticks left some few = lt_or_ge (dec_le 15 ticks) where
  lt_or_ge : Dec (15 ≤ ticks) → ticks ≤ 14
  lt_or_ge (no less) = omega (arith, lt_of_not-le less)
  lt_or_ge (yes many) =
      let power : 2 ^ 15 ≤ 2 ^ ticks = pow-le-pow_right (omega arith) many in
      let one : 2 ^ ticks * 1 ≤ 2 ^ ticks * left = mul-le-mul_left (2 ^ ticks) (omega (arith, some)) in
      omega (arith, power, one, few)

-- ---- keys that are there

pub key_there : (octets : List ℕ) (targets : List Target) (key : List ℕ) (index : ℕ) (d : Target)
    → index < length targets → key_cmp octets (slice_index_or targets index d) key ≡ Ordering.Equal
    → HasKeyAt octets targets key index
key_there octets targets key index d within reported = record {
  within = within;
  is = λ e. ap (key_of octets) (get_or_default targets index e d within)
      ∙ exact_bytes (key_of octets (slice_index_or targets index d)) key reported;
}

pub key_equal : (octets : List ℕ) (targets : List Target) (key : List ℕ) (index : ℕ) (d : Target)
    → HasKeyAt octets targets key index → key_cmp octets (slice_index_or targets index d) key ≡ Ordering.Equal
key_equal octets targets key index d has =
    subst (λ k. slice_cmp nat_cmp k key ≡ Ordering.Equal) (sym (has.is d))
    (tied_itself nat_list_cmp_total key)

-- no target has a key that some targets come before, and all others after
pub nowhere : (octets : List ℕ) (targets : List Target) (key : List ℕ) (position : ℕ)
    → ((k : ℕ) (d : Target) → k < position → key_cmp octets (slice_index_or targets k d) key ≡ Ordering.Less)
    → ((k : ℕ) (d : Target) → position ≤ k → k < length targets
    → key_cmp octets (slice_index_or targets k d) key ≡ Ordering.Greater)
    → HasNoKey octets targets key
nowhere octets targets key position before after index has = by (dec_le position index) where
  d : Target
  d = record { at = 0; next = 0; pointers = 0; digest = 0 }

  equal : key_cmp octets (slice_index_or targets index d) key ≡ Ordering.Equal
  equal = key_equal octets targets key index d has

  by : Dec (position ≤ index) → ⊥
  by (yes from) = true≢false (sym (ap is_eq equal) ∙ ap is_eq (after index d from has.within))
  by (no less) = true≢false (sym (ap is_lt (before index d (lt_of_not-le less))) ∙ ap is_lt equal)

-- at least half of what was left is left, which bounds the number of turns from below
pub halves_left : (ticks more left less total : ℕ) → more ≡ ticks + 1 → left + 2 ≤ 2 * (less + 2)
    → total + 2 ≤ (left + 2) * 2 ^ ticks → total + 2 ≤ (less + 2) * 2 ^ more
halves_left ticks more left less total next half all =
    let power : 2 ^ more ≡ 2 ^ ticks * 2 = ap (λ n. 2 ^ n) (omega (arith, next)) ∙ pow-suc 2 ticks in
    let longer : (left + 2) * 2 ^ ticks ≤ (2 * (less + 2)) * 2 ^ ticks = mul-le-mul_right (2 ^ ticks) half in
    let same : (2 * (less + 2)) * 2 ^ ticks ≡ (less + 2) * (2 ^ ticks * 2) = grind arith in
    let both : (less + 2) * 2 ^ more ≡ (less + 2) * (2 ^ ticks * 2) = ap (λ p. (less + 2) * p) power in
    omega (arith, all, longer, same, both)

-- The number of octets of two values, one after the other.
use Rattle.std.specs.Prelude.{◌≡◌, ℕ, ◌+◌, ◌<◌, ◌^◌, List, ◌++◌, length, refl, Option, Some, None, IfSome, IsSome}
use Rattle.std.specs.Prelude.{IsNone}
use Rattle.std.proofs.Common.{sym, ap, ◌∙◌, subst, arith, length-append, append_assoc}
use Rattle.octseq.specs.Limit.{IsWithin}
use Rattle.octseq_format.specs.Laws.{AllHave, HasOctets}
use Rattle.octseq_format.specs.Pair.{◌before◌, ◌also◌, both_octets, BothFit, AreBoth}

-- A value has as many octets, or none encode it.
abbrev pub HasLen : {S : Type 0} → (S → List ℕ) → (S → Type 0) → S → Option ℕ → Type 0
HasLen octets Fits said None = ¬ HasOctets octets Fits said
HasLen octets Fits said (Some n) = (n ≡ length (octets said)) × Fits said

module _ {S : Type 0} (octets : S → List ℕ) (Fits : S → Type 0) (said : S) where
  pub has_len : (len : Option ℕ) → IfSome len (λ n. n ≡ length (octets said)) → (IsSome len → Fits said)
      → (IsNone len → ¬ HasOctets octets Fits said) → HasLen octets Fits said len
  has_len None some fit none = none refl
  has_len (Some n) some fit none = (some, fit refl)

  pub len_some : (len : Option ℕ) → HasLen octets Fits said len → IfSome len (λ n. n ≡ length (octets said))
  len_some None has = tt
  len_some (Some n) has = has.0

  pub len_fit : (len : Option ℕ) → HasLen octets Fits said len → IsSome len → Fits said
  len_fit None has some = cc
  len_fit (Some n) has some = has.1

  pub len_none : (len : Option ℕ) → HasLen octets Fits said len → IsNone len → ¬ HasOctets octets Fits said
  len_none None has none = has
  len_none (Some n) has none = cc

module _ {S T : Type 0} (first : S → List ℕ) (second : T → List ℕ) (A : S → Type 0) (B : T → Type 0) where
  -- the octets of the first and of the second are as many as those of both
  longs : (both : S × T) → length (both_octets first second both) ≡ length (first both.0) + length (second both.1)
  unfolding both_octets
  longs both = length-append (first both.0) (second both.1)

  not_first : (both : S × T) → (¬ HasOctets first A both.0) → ¬ HasOctets (first before second) (A also B) both
  not_first both none has = let long = longs both in let few = has.few in
      none (record { fits = has.fits.first; few = omega (arith, long, few) })

  not_second : (both : S × T) → (¬ HasOctets second B both.1) → ¬ HasOctets (first before second) (A also B) both
  not_second both none has = let long = longs both in let few = has.few in
      none (record { fits = has.fits.second; few = omega (arith, long, few) })

  pub first_has : (both : S × T) → HasOctets (first before second) (A also B) both → HasOctets first A both.0
  first_has both has = let long = longs both in let few = has.few in
      record { fits = has.fits.first; few = omega (arith, long, few) }

  pub second_has : (both : S × T) → HasOctets (first before second) (A also B) both → HasOctets second B both.1
  second_has both has = let long = longs both in let few = has.few in
      record { fits = has.fits.second; few = omega (arith, long, few) }

  pub both_has_len : (both : S × T) (m n len : Option ℕ) → HasLen first A both.0 m → HasLen second B both.1 n
      → AreBoth m n len → HasLen (first before second) (A also B) both len
  both_has_len both None n len one two is =
      subst (HasLen (first before second) (A also B) both) (sym is) (not_first both one)
  both_has_len both (Some m) None len one two is =
      subst (HasLen (first before second) (A also B) both) (sym is) (not_second both two)
  both_has_len both (Some m) (Some n) None one two is = λ has.
      let long = longs both in let few = has.few in
      let here = one.0 in let there = two.0 in
      is (omega (arith, long, few, here, there))
  both_has_len both (Some m) (Some n) (Some len) one two is =
      let long = longs both in
      let here = one.0 in let there = two.0 in let sum = is.1 in (
        omega (arith, long, here, there, sum),
        record { first = one.1; second = two.1 },
      )

  -- if each has as many octets, so have both
  pub all_have_both : (m n len : Option ℕ) → IfSome m (AllHave first A) → IfSome n (AllHave second B) → AreBoth m n len
      → IfSome len (AllHave (first before second) (A also B))
  all_have_both None n len one two is = subst (λ len. IfSome len (AllHave (first before second) (A also B))) (sym is) tt
  all_have_both (Some m) None len one two is =
      subst (λ len. IfSome len (AllHave (first before second) (A also B))) (sym is) tt
  all_have_both (Some m) (Some n) None one two is = tt
  all_have_both (Some m) (Some n) (Some len) one two is = λ both fits.
      let long = longs both in
      let here = one both.0 fits.first in let there = two both.1 fits.second in let sum = is.1 in
      omega (arith, long, here, there, sum)

-- ---- what was appended so far

-- past octets that were appended, those that follow them are within the limit
pub rest_within : (limit : Option ℕ) (c d x y : List ℕ) → IsWithin limit (length c + length (x ++ y)) → d ≡ c ++ x
    → IsWithin limit (length d + length y)
rest_within None c d x y within is = tt
rest_within (Some most) c d x y within is =
    let longer = ap length is in
    let here : length (c ++ x) ≡ length c + length x = length-append c x in
    let both : length (x ++ y) ≡ length x + length y = length-append x y in
    omega (arith, within, longer, here, both)

pub append_on : (c d e x y : List ℕ) → d ≡ c ++ x → e ≡ d ++ y → e ≡ c ++ (x ++ y)
append_on c d e x y one two = two ∙ ap (λ d. d ++ y) one ∙ append_assoc c x y

-- and so are the first of them
pub first_within : (limit : Option ℕ) (c x y : List ℕ) → IsWithin limit (length c + length (x ++ y))
    → IsWithin limit (length c + length x)
first_within None c x y within = tt
first_within (Some most) c x y within =
    let both : length (x ++ y) ≡ length x + length y = length-append x y in omega (arith, within, both)

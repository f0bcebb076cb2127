-- What is in a list, by recursion.
use Rattle.std.proofs.Common.{◌≡◌, ℕ, zero, suc, ◌+◌, ◌<◌, ◌≤◌, ◌⊎◌, inl, inr, Bool, true, false, cond}
use Rattle.std.proofs.Common.{List, [], ◌∷◌, ◌++◌, map, filter, refl, sym, ap, ◌∙◌, subst, arith}
use Rattle.std.specs.List.{Contains, flat_map, range_with_len}

abbrev pub Member : {X : Type 0} → List X → X → Type 0
Member [] x = ⊥
Member (y ∷ ys) x = (y ≡ x) ⊎ Member ys x

pub contained : {X : Type 0} (xs : List X) (x : X) → Member xs x → Contains xs x
contained [] x is = elim is [ ]
contained (y ∷ ys) x (inl same) = (0, omega arith, same)
contained (y ∷ ys) x (inr more) = let at = contained ys x more in (suc at.0, omega (arith, at.1), at.2)

pub member : {X : Type 0} (xs : List X) (x : X) → Contains xs x → Member xs x
member [] x at = let few = at.1 in absurd (omega (arith, few))
member (y ∷ ys) x (zero, few, same) = inl same
member (y ∷ ys) x (suc k, few, same) = inr (member ys x (k, omega (arith, few), same))

pub member_left : {X : Type 0} (xs ys : List X) (x : X) → Member xs x → Member (xs ++ ys) x
member_left [] ys x is = elim is [ ]
member_left (z ∷ zs) ys x (inl same) = inl same
member_left (z ∷ zs) ys x (inr more) = inr (member_left zs ys x more)

pub member_right : {X : Type 0} (xs ys : List X) (x : X) → Member ys x → Member (xs ++ ys) x
member_right [] ys x is = is
member_right (z ∷ zs) ys x is = inr (member_right zs ys x is)

pub member_cases : {X : Type 0} (xs ys : List X) (x : X) → Member (xs ++ ys) x → Member xs x ⊎ Member ys x
member_cases [] ys x is = inr is
member_cases (z ∷ zs) ys x (inl same) = inl (inl same)
member_cases (z ∷ zs) ys x (inr more) =
    elim (member_cases zs ys x more) [ inl left ↦ inl (inr left) | inr right ↦ inr right ]

pub member_flat : {X Y : Type 0} (f : X → List Y) (xs : List X) (x : X) (y : Y) → Member xs x → Member (f x) y
    → Member (flat_map f xs) y
member_flat f [] x y is inside = elim is [ ]
member_flat f (z ∷ zs) x y (inl same) inside =
    member_left (f z) (flat_map f zs) y (subst (λ x. Member (f x) y) (sym same) inside)
member_flat f (z ∷ zs) x y (inr more) inside = member_right (f z) (flat_map f zs) y (member_flat f zs x y more inside)

pub flat_member : {X Y : Type 0} (f : X → List Y) (xs : List X) (y : Y) → Member (flat_map f xs) y
    → (x : X) × Member xs x × Member (f x) y
flat_member f [] y is = elim is [ ]
flat_member f (z ∷ zs) y is = elim (member_cases (f z) (flat_map f zs) y is) [
  | inl here ↦ (z, inl refl, here)
  | inr there ↦ let more = flat_member f zs y there in (more.0, inr more.1, more.2)
]

pub member_map : {X Y : Type 0} (f : X → Y) (xs : List X) (x : X) → Member xs x → Member (map f xs) (f x)
member_map f [] x is = elim is [ ]
member_map f (z ∷ zs) x (inl same) = inl (ap f same)
member_map f (z ∷ zs) x (inr more) = inr (member_map f zs x more)

pub map_member : {X Y : Type 0} (f : X → Y) (xs : List X) (y : Y) → Member (map f xs) y
    → (x : X) × Member xs x × (f x ≡ y)
map_member f [] y is = elim is [ ]
map_member f (z ∷ zs) y (inl same) = (z, inl refl, same)
map_member f (z ∷ zs) y (inr is) = let more = map_member f zs y is in (more.0, inr more.1, more.2)

kept : {X : Type 0} (z x : X) (zs : List X) → (b : Bool) → Member zs x → Member (cond b (z ∷ zs) zs) x
kept z x zs true is = inr is
kept z x zs false is = is

pub member_filter : {X : Type 0} (p : X → Bool) (xs : List X) (x : X) → p x ≡ true → Member xs x
    → Member (filter p xs) x
member_filter p [] x passes is = elim is [ ]
member_filter p (z ∷ zs) x passes (inl same) =
    subst (λ b. Member (cond b (z ∷ filter p zs) (filter p zs)) x) (sym (ap p same ∙ passes)) (inl same)
member_filter p (z ∷ zs) x passes (inr more) = kept z x (filter p zs) (p z) (member_filter p zs x passes more)

filtered : {X : Type 0} (z x : X) (zs : List X) → (b : Bool) → Member (cond b (z ∷ zs) zs) x
    → ((b ≡ true) × (z ≡ x)) ⊎ Member zs x
filtered z x zs true (inl same) = inl (refl, same)
filtered z x zs true (inr more) = inr more
filtered z x zs false is = inr is

pub filter_member : {X : Type 0} (p : X → Bool) (xs : List X) (x : X) → Member (filter p xs) x
    → Member xs x × (p x ≡ true)
filter_member p [] x is = elim is [ ]
filter_member p (z ∷ zs) x is = elim (filtered z x (filter p zs) (p z) is) [
  | inl here ↦ (inl here.1, ap p (sym here.1) ∙ here.0)
  | inr there ↦ let more = filter_member p zs x there in (inr more.0, more.1)
]

pub member_range : (a n x : ℕ) → a ≤ x → x < a + n → Member (range_with_len a n) x
member_range a zero x low high = absurd (omega (arith, low, high))
member_range a (suc n) x low high = elim (first_or a x low) [
  | inl same ↦ inl same
  | inr more ↦ inr (member_range (a + 1) n x more (omega (arith, high)))
]
  where
    first_or : (a x : ℕ) → a ≤ x → (a ≡ x) ⊎ (a + 1 ≤ x)
    first_or zero zero low = inl refl
    first_or zero (suc x) low = inr (omega arith)
    first_or (suc a) zero low = absurd (omega (arith, low))
    first_or (suc a) (suc x) low = elim (first_or a x (omega (arith, low))) [
      | inl same ↦ inl (ap suc same)
      | inr more ↦ inr (omega (arith, more))
    ]

pub range_member : (a n x : ℕ) → Member (range_with_len a n) x → (a ≤ x) × (x < a + n)
range_member a zero x is = elim is [ ]
range_member a (suc n) x (inl same) = (omega (arith, same), omega (arith, same))
range_member a (suc n) x (inr is) =
    let more = range_member (a + 1) n x is in
    let low = more.0 in
    let high = more.1 in
    (omega (arith, low), omega (arith, high))

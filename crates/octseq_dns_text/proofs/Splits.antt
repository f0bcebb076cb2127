-- Octets, split at an octet.
use Rattle.std.proofs.Common.{◌≡◌, ℕ, suc, ◌+◌, ◌-◌, ◌<◌, Bool, true, false, List, [], ◌∷◌, length, take, drop}
use Rattle.std.proofs.Common.{refl, sym, ap, ◌∙◌, arith, add-one, Option, None, Some}
use Rattle.std.specs.Prelude.{◌==◌, if◌then◌else◌}
use Rattle.std.specs.List.{onto_first, position_from, position}
use Rattle.std.proofs.lemmas.Iterator.Adapters.{position_from-zero}
use Rattle.std.proofs.lemmas.List.{take_all, length-drop}
use Rattle.octseq_dns_text.specs.Split.{octets_before, split_after, items_of}

abbrev Finds : ℕ → ℕ → ℕ → List ℕ → Type 0
Finds at k i xs = (n : ℕ) × (i ≡ k + n) × (n < length xs) × (octets_before at xs ≡ take n xs)
    × (split_after at xs ≡ Some (drop (n + 1) xs))

found_here : (at k i x : ℕ) (xs : List ℕ) (here : Bool)
    → (if here then Some k else position_from (λ octet. octet == at) (k + 1) xs) ≡ Some i
    → (position_from (λ octet. octet == at) (k + 1) xs ≡ Some i → Finds at (k + 1) i xs)
    → (n : ℕ) × (i ≡ k + n) × (n < length (x ∷ xs))
    × ((if here then [] else x ∷ octets_before at xs) ≡ take n (x ∷ xs))
    × ((if here then Some xs else split_after at xs) ≡ Some (drop (n + 1) (x ∷ xs)))
found_here at k i x xs true is later = let same : k ≡ i = cc in (0, omega (arith, same), omega arith, refl, refl)
found_here at k i x xs false is later =
    let found = later is in (
      suc found.0,
      omega (arith, found.1),
      omega (arith, found.2),
      ap (λ l. x ∷ l) found.3,
      found.4 ∙ ap Some (ap (λ m. drop m xs) (add-one found.0)
          ∙ ap (λ m. drop m (x ∷ xs)) (sym (add-one (suc found.0)))),
    )

found_from : (at k i : ℕ) (xs : List ℕ) → position_from (λ octet. octet == at) k xs ≡ Some i → Finds at k i xs
found_from at k i [] is = absurd (cc)
found_from at k i (x ∷ xs) is = found_here at k i x xs (x == at) is (found_from at (k + 1) i xs)

-- the octets before the first such octet, and those after it
pub split_found : (at i : ℕ) (xs : List ℕ) → position (λ octet. octet == at) xs ≡ Some i
    → (i < length xs) × (octets_before at xs ≡ take i xs)
    × (split_after at xs ≡ Some (take (length xs - (i + 1)) (drop (i + 1) xs)))
split_found at i xs is =
    let found = found_from at 0 i xs (sym (position_from-zero (λ octet. octet == at) xs) ∙ is) in
    let same : found.0 ≡ i = omega (arith, found.1) in (
      omega (arith, same, found.2),
      found.3 ∙ ap (λ m. take m xs) same,
      found.4 ∙ ap (λ m. Some (drop (m + 1) xs)) same
          ∙ ap Some (sym (take_all (length xs - (i + 1)) (drop (i + 1) xs) (omega (arith, length-drop (i + 1) xs)))),
    )

missing_here : (at k x : ℕ) (xs : List ℕ) (here : Bool)
    → (if here then Some k else position_from (λ octet. octet == at) (k + 1) xs) ≡ None
    → (position_from (λ octet. octet == at) (k + 1) xs ≡ None
    → (octets_before at xs ≡ xs) × (split_after at xs ≡ None))
    → ((if here then [] else x ∷ octets_before at xs) ≡ x ∷ xs)
    × ((if here then Some xs else split_after at xs) ≡ None)
missing_here at k x xs true is later = absurd (cc)
missing_here at k x xs false is later = let none = later is in (ap (λ l. x ∷ l) none.0, none.1)

missing_from : (at k : ℕ) (xs : List ℕ) → position_from (λ octet. octet == at) k xs ≡ None
    → (octets_before at xs ≡ xs) × (split_after at xs ≡ None)
missing_from at k [] is = (refl, refl)
missing_from at k (x ∷ xs) is = missing_here at k x xs (x == at) is (missing_from at (k + 1) xs)

-- all octets are before such an octet, if there is none
pub split_missing : (at : ℕ) (xs : List ℕ) → position (λ octet. octet == at) xs ≡ None
    → (octets_before at xs ≡ xs) × (split_after at xs ≡ None)
split_missing at xs is =
    missing_from at 0 xs (sym (position_from-zero (λ octet. octet == at) xs) ∙ is)

-- ---- items

-- the items of what follows a comma, if there is one
abbrev pub items_after : Option (List ℕ) → List (List ℕ)
items_after None = []
items_after (Some list) = items_of list

item_step : (x : ℕ) (xs : List ℕ) (here : Bool) → items_of xs ≡ octets_before 44 xs ∷ items_after (split_after 44 xs)
    → (if here then ([] ∷ items_of xs) else onto_first x (items_of xs))
    ≡ (if here then [] else x ∷ octets_before 44 xs) ∷ items_after (if here then Some xs else split_after 44 xs)
item_step x xs true later = refl
item_step x xs false later = ap (onto_first x) later

-- the first item is before the first comma
pub item_first : (list : List ℕ) → items_of list ≡ octets_before 44 list ∷ items_after (split_after 44 list)
item_first [] = refl
item_first (x ∷ xs) = item_step x xs (x == 44) (item_first xs)

after_step : (at x : ℕ) (xs rest : List ℕ) (here : Bool)
    → (if here then Some xs else split_after at xs) ≡ Some rest
    → (split_after at xs ≡ Some rest → length rest < length xs) → length rest < length (x ∷ xs)
after_step at x xs rest true is later =
    let all : xs ≡ rest = cc in
    let same = ap length all in omega (arith, same)
after_step at x xs rest false is later = let less = later is in omega (arith, less)

-- what follows such an octet is shorter
pub after_shortens : (at : ℕ) (xs rest : List ℕ) → split_after at xs ≡ Some rest → length rest < length xs
after_shortens at [] rest is = absurd (cc)
after_shortens at (x ∷ xs) rest is = after_step at x xs rest (x == at) is (after_shortens at xs rest)

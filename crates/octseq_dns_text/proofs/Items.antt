-- The items of a list are read one by one.
use Rattle.std.proofs.Common.{◌≡◌, ℕ, List, [], ◌∷◌, ◌++◌, Option, None, Some, refl, sym, ap, ◌∙◌, subst}
use Rattle.std.proofs.Common.{append_assoc}
use Rattle.std.specs.List.{AllZip}
use Rattle.std.proofs.lemmas.List.{append-nil}
use Rattle.octseq_dns_text.specs.Split.{octets_before, split_after, items_of}
use Rattle.octseq_dns_text.proofs.Fronts.{zip_more, zip_part}
use Rattle.octseq_dns_text.proofs.Splits.{item_first, items_after}

-- The first items of what is said are read as these values, and those of a list are left.
pub record ReadsItems {B : Type 0} (R : List ℕ → B → Type 0) (said list : List ℕ) (values : List B) : Type 0 where
  pub front : List (List ℕ)
  pub items : items_of said ≡ front ++ items_of list
  pub each : AllZip R front values

pub items_none : {B : Type 0} (R : List ℕ → B → Type 0) (said : List ℕ) → ReadsItems R said said []
items_none R said = record { front = []; items = refl; each = tt }

-- An item comes next, and what is after its comma, if there is one.
pub record Next (list item : List ℕ) (rest : Option (List ℕ)) : Type 0 where
  pub item_is : item ≡ octets_before 44 list
  pub rest_is : rest ≡ split_after 44 list

split_next : (said list item : List ℕ) (rest : Option (List ℕ)) (front : List (List ℕ)) → Next list item rest
    → items_of said ≡ front ++ items_of list → items_of said ≡ (front ++ item ∷ []) ++ items_after rest
split_next said list item rest front next same =
    let first = item_first list ∙ ap (λ i. i ∷ items_after (split_after 44 list)) (sym next.item_is)
    ∙ ap (λ r. item ∷ items_after r) (sym next.rest_is) in
    same ∙ ap (λ l. front ++ l) first ∙ sym (append_assoc front (item ∷ []) (items_after rest))

pub items_more : {B : Type 0} (R : List ℕ → B → Type 0) (said list item after : List ℕ) (rest : Option (List ℕ))
    (values : List B) (value : B) → ReadsItems R said list values → Next list item rest → rest ≡ Some after
    → R item value → ReadsItems R said after (values ++ value ∷ [])
items_more R said list item after rest values value so_far next more one = record {
  front = so_far.front ++ item ∷ [];
  items = split_next said list item rest so_far.front next so_far.items
      ∙ ap (λ r. (so_far.front ++ item ∷ []) ++ items_after r) more;
  each = zip_more R so_far.front values item value so_far.each one;
}

pub items_last : {B : Type 0} (R : List ℕ → B → Type 0) (said list item : List ℕ) (rest : Option (List ℕ))
    (values : List B) (value : B) → ReadsItems R said list values → Next list item rest → rest ≡ None
    → R item value → AllZip R (items_of said) (values ++ value ∷ [])
items_last R said list item rest values value so_far next end one =
    let all = split_next said list item rest so_far.front next so_far.items
    ∙ ap (λ r. (so_far.front ++ item ∷ []) ++ items_after r) end ∙ append-nil (so_far.front ++ item ∷ []) in
    subst (λ l. AllZip R l (values ++ value ∷ [])) (sym all) (zip_more R so_far.front values item value so_far.each one)

-- what the next item is read as, if all are read
pub items_next : {B : Type 0} (R : List ℕ → B → Type 0) (said list item : List ℕ) (rest : Option (List ℕ))
    (values zs : List B) (so_far : ReadsItems R said list values) → Next list item rest → AllZip R (items_of said) zs
    → (before : List B) × (z : B) × (after : List B) × (zs ≡ before ++ z ∷ after) × AllZip R so_far.front before
    × R item z
items_next R said list item rest values zs so_far next each =
    zip_part R so_far.front item (items_after rest) zs
    (subst (λ l. AllZip R l zs) (split_next said list item rest so_far.front next so_far.items) each)

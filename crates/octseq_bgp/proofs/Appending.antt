-- What each of a row is written as is appended, one after another.
use Rattle.std.proofs.Common.{◌≡◌, ℕ, ◌+◌, ◌≤◌, Option, Some, None, List, [], ◌∷◌, ◌++◌, length, refl, sym, ap, ◌∙◌}
use Rattle.std.proofs.Common.{subst, arith}
use Rattle.std.proofs.Common.{append-nil, append_assoc, length-append}
use Rattle.std.proofs.lemmas.List.Concat.{flat_map-cons}
use Rattle.std.specs.List.{flat_map}
use Rattle.std.specs.Prelude.{◌↔◌, OnOk, Result, Ok, Err}
use Rattle.octseq.specs.Limit.{ExceedsLimit, IsWithin}
use Rattle.octseq_bgp.specs.RewrittenOpen.{AppendedRow, Each}

pub within_less : (limit : Option ℕ) (m n : ℕ) → m ≤ n → IsWithin limit n → IsWithin limit m
within_less (Some limit) m n less within = omega arith
within_less None m n less within = tt

pub grown : (old new more : List ℕ) → new ≡ old ++ more → length new ≡ length old + length more
grown old new more is = ap length is ∙ length-append old more

-- what is known of a value is known of what follows from it
pub if_ok : {T E P Q : Type 0} (result : Result T E) → (P → Q) → OnOk result P → OnOk result Q
if_ok (Ok t) more is = more is
if_ok (Err e) more is = is

-- what a row is written as, by its first
pub each_first : {A B : Type 0} (Is : A → B → Type 0) {row more : List A} {a : A} → row ≡ a ∷ more → (b : B) → Is a b
    → (written : List B) × Each Is more written → (written : List B) × Each Is row written
each_first Is steps b is others =
    (b ∷ others.0, subst (λ row. Each Is row (b ∷ others.0)) (sym steps) (b, others.0, is, others.1, refl))

pub each_none : {A B : Type 0} (Is : A → B → Type 0) {row : List A} → row ≡ [] → (written : List B)
    × Each Is row written
each_none Is none = ([], subst (λ row. Each Is row []) (sym none) refl)

-- If those ahead are appended to what there is now, all are to what there was.
pub record Goes {A B : Type 0} (Is : A → B → Type 0) (octets : B → List ℕ) (all ahead : List A) (old now : List ℕ)
    : Type 0 where
  pub on : (last : List ℕ) → AppendedRow Is octets ahead now last → AppendedRow Is octets all old last

pub goes_none : {A B : Type 0} {Is : A → B → Type 0} {octets : B → List ℕ} (all : List A) (old : List ℕ)
    → Goes Is octets all all old old
goes_none all old = record { on = λ last others. others }

pub goes_on : {A B : Type 0} {Is : A → B → Type 0} {octets : B → List ℕ} {all ahead more : List A} {a : A}
    {old now after : List ℕ} → Goes Is octets all ahead old now → ahead ≡ a ∷ more → (b : B) → Is a b
    → after ≡ now ++ octets b → Goes Is octets all more old after
unfolding each_first
goes_on {Is = Is} {octets = octets} {now = now} goes steps b is put = record {
  on = λ last others.
      let row = each_first Is steps b is (others.0, others.1) in
      let o = flat_map octets others.0 in
      goes.on last (
        row.0,
        row.1,
        others.2 ∙ ap (λ m. m ++ o) put ∙ append_assoc now (octets b) o
            ∙ ap (λ o. now ++ o) (sym (flat_map-cons octets b others.0)),
      );
}

pub goes_all : {A B : Type 0} {Is : A → B → Type 0} {octets : B → List ℕ} {all ahead : List A} {old now : List ℕ}
    → Goes Is octets all ahead old now → ahead ≡ [] → AppendedRow Is octets all old now
unfolding each_none
goes_all {Is = Is} {now = now} goes none =
    let row = each_none Is none in
    goes.on now (row.0, row.1, sym (append-nil now))

-- ---- whether what is written is past a limit

module _ {Is : List ℕ → Type 0} (limit : Option ℕ) (n : ℕ) (long : (out : List ℕ) → Is out → length out ≡ n) where
  pub is_short : ExceedsLimit limit n → (out : List ℕ) → Is out → (out : List ℕ) × Is out
      × ExceedsLimit limit (length out)
  is_short past out is = (out, is, subst (ExceedsLimit limit) (sym (long out is)) past)

  pub not_short : ¬ ExceedsLimit limit n → ⊥ ↔ ((out : List ℕ) × Is out × ExceedsLimit limit (length out))
  not_short isnt = (λ no. absurd no, λ short. isnt (subst (ExceedsLimit limit) (long short.0 short.1) short.2))

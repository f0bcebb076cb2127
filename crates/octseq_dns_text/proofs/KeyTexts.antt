-- A text is the name of one key at most.
use Rattle.std.proofs.Common.{◌≡◌, ◌⊎◌, inl, inr, ℕ, zero, suc, ◌<◌, List, [], ◌∷◌, None, Some}
use Rattle.std.proofs.Common.{Bool, true, false, refl, sym, ap, ◌∙◌, subst, arith}
use Rattle.std.specs.List.{IsAmong}
use Rattle.std.specs.Prelude.{codes, if◌then◌else◌}
use Rattle.std.specs.Str.{bytes_eq}
use Rattle.std.specs.Str.Parse.{digits_value}
use Rattle.std.proofs.Math.Bool.{true≢false}
use Rattle.std.proofs.lemmas.List.{append_cancel_left}
use Rattle.std.proofs.lemmas.Slice.Eq.{bytes_eq-Decides}
use Rattle.octseq_dns_data.specs.Mnemonic.{Mnemonics}
use Rattle.octseq_dns_data.specs.SvcParamsText.{key_names}
use Rattle.octseq_dns_text.specs.KeyText.{IsKeyText, IsNumberedKey, key_named}

number : {x y : ℕ × List ℕ} → x ≡ y → x.0 ≡ y.0
number same = ap (λ (x : ℕ × List ℕ). x.0) same

abbrev Names_key : ℕ × List ℕ → Type 0
Names_key named = key_named key_names named.1 ≡ Some named.0

among_named : (key : ℕ) (name : List ℕ) → IsAmong key_names (key, name) → key_named key_names name ≡ Some key
among_named key name (zero, (less, same)) = subst Names_key (sym same) refl
among_named key name (suc zero, (less, same)) = subst Names_key (sym same) refl
among_named key name (suc (suc zero), (less, same)) = subst Names_key (sym same) refl
among_named key name (suc (suc (suc zero)), (less, same)) = subst Names_key (sym same) refl
among_named key name (suc (suc (suc (suc zero))), (less, same)) = subst Names_key (sym same) refl
among_named key name (suc (suc (suc (suc (suc zero)))), (less, same)) = subst Names_key (sym same) refl
among_named key name (suc (suc (suc (suc (suc (suc zero))))), (less, same)) = subst Names_key (sym same) refl
among_named key name (suc (suc (suc (suc (suc (suc (suc i)))))), (less, same)) = absurd (omega (arith, less))

numbered_unnamed : (name : List ℕ) (key : ℕ) → IsNumberedKey name key → key_named key_names name ≡ None
numbered_unnamed name key is = subst (λ n. key_named key_names n ≡ None) (sym is.parts) refl

numbered_once : (name : List ℕ) (a b : ℕ) → IsNumberedKey name a → IsNumberedKey name b → a ≡ b
numbered_once name a b one two =
    let digits = append_cancel_left (codes "key") one.digits two.digits (sym one.parts ∙ two.parts) in
    sym one.value ∙ ap (digits_value 10) digits ∙ two.value

pub key_once : (name : List ℕ) (a b : ℕ) → IsKeyText name a → IsKeyText name b → a ≡ b
key_once name a b (inl one) (inl two) =
    let here = among_named a name one in let there = among_named b name two in cc
key_once name a b (inl one) (inr two) =
    let here = among_named a name one in let there = numbered_unnamed name b two in absurd (cc)
key_once name a b (inr one) (inl two) =
    let here = numbered_unnamed name a one in let there = among_named b name two in absurd (cc)
key_once name a b (inr one) (inr two) = numbered_once name a b one two

small_among : (key : ℕ) (name : List ℕ) → IsAmong key_names (key, name) → key < 65536
small_among key name (zero, (less, same)) = let e = number same in omega (arith, e)
small_among key name (suc zero, (less, same)) = let e = number same in omega (arith, e)
small_among key name (suc (suc zero), (less, same)) = let e = number same in omega (arith, e)
small_among key name (suc (suc (suc zero)), (less, same)) = let e = number same in omega (arith, e)
small_among key name (suc (suc (suc (suc zero))), (less, same)) = let e = number same in omega (arith, e)
small_among key name (suc (suc (suc (suc (suc zero)))), (less, same)) = let e = number same in omega (arith, e)
small_among key name (suc (suc (suc (suc (suc (suc zero))))), (less, same)) = let e = number same in omega (arith, e)
small_among key name (suc (suc (suc (suc (suc (suc (suc i)))))), (less, same)) = absurd (omega (arith, less))

-- a key is a number of 16 bits
pub key_bits : (name : List ℕ) (key : ℕ) → IsKeyText name key → key < 65536
key_bits name key (inl named) = small_among key name named
key_bits name key (inr numbered) = numbered.bits

-- ---- a name among names

pair : (named : ℕ × List ℕ) (key : ℕ) (name : List ℕ) → named.0 ≡ key → named.1 ≡ name → named ≡ (key, name)
pair named key name number spelled =
    let first : named ≡ (key, named.1) = ap (λ (k : ℕ). (k, named.1)) number in
    first ∙ ap (λ (n : List ℕ). (key, n)) spelled

pub first_among : (x : ℕ × List ℕ) (xs : Mnemonics) → IsAmong (x ∷ xs) x
first_among x xs = (0, (omega arith, refl))

pub later_among : (x y : ℕ × List ℕ) (xs : Mnemonics) → IsAmong xs y → IsAmong (x ∷ xs) y
later_among x y xs is = (suc is.0, (omega (arith, is.1.0), is.1.1))

pub first_or_later : (x y : ℕ × List ℕ) (xs : Mnemonics) → IsAmong (x ∷ xs) y → (y ≡ x) ⊎ IsAmong xs y
first_or_later x y xs (zero, (less, same)) = inl same
first_or_later x y xs (suc i, (less, same)) = inr (i, (omega (arith, less), same))

named_step : (named : ℕ × List ℕ) (more : Mnemonics) (name : List ℕ) (key : ℕ) (here : Bool)
    → bytes_eq named.1 name ≡ here → (if here then Some named.0 else key_named more name) ≡ Some key
    → (key_named more name ≡ Some key → IsAmong more (key, name)) → IsAmong (named ∷ more) (key, name)
named_step named more name key true same is later =
    let number : named.0 ≡ key = cc in
    let spelled : named.1 ≡ name = (bytes_eq-Decides named.1 name).0 same in
    (0, (omega arith, sym (pair named key name number spelled)))
named_step named more name key false same is later =
    let found = later is in (suc found.0, (omega (arith, found.1.0), found.1.1))

-- the key of a name
pub named_among : (names : Mnemonics) (name : List ℕ) (key : ℕ) → key_named names name ≡ Some key
    → IsAmong names (key, name)
named_among [] name key is = absurd (cc)
named_among (named ∷ more) name key is =
    named_step named more name key (bytes_eq named.1 name) refl is (named_among more name key)

unnamed_step : (named : ℕ × List ℕ) (more : Mnemonics) (name : List ℕ) (here : Bool)
    → (if here then Some named.0 else key_named more name) ≡ None → (here ≡ false) × (key_named more name ≡ None)
unnamed_step named more name true is = absurd (cc)
unnamed_step named more name false is = (refl, is)

pub unnamed : (names : Mnemonics) (name : List ℕ) → key_named names name ≡ None → (key : ℕ)
    → ¬ IsAmong names (key, name)
unnamed [] name is key among = absurd (omega (arith, among.1.0))
unnamed (named ∷ more) name is key among =
    let here = unnamed_step named more name (bytes_eq named.1 name) is in
    elim (first_or_later named (key, name) more among) [
      | inl same ↦
          let equal = (bytes_eq-Decides named.1 name).1 (ap (λ (x : ℕ × List ℕ). x.1) (sym same)) in
          true≢false (sym equal ∙ here.0)
      | inr later ↦ unnamed more name here.1 key later
    ]

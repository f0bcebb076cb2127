-- What is written anew has no more octets than it had, and the same ones if it is minimal.
use Rattle.std.proofs.Common.{◌≡◌, ℕ, ◌+◌, ◌≤◌, List, [], ◌∷◌, ◌++◌, length, map, refl, sym, ap, ◌∙◌, arith}
use Rattle.std.proofs.Common.{length-append}
use Rattle.std.proofs.lemmas.List.Concat.{flat_map-cons}
use Rattle.std.specs.List.{AllByRecursion, flat_map}

-- It has as many octets.
pub record Kept (Minimal : Type 0) (new old : List ℕ) : Type 0 where
  pub long : length new ≡ length old
  pub same : Minimal → new ≡ old

-- It has no more.
pub record Shrinks (Minimal : Type 0) (new old : List ℕ) : Type 0 where
  pub short : length new ≤ length old
  pub same : Minimal → new ≡ old

pub kept_as : {M : Type 0} {new old : List ℕ} → new ≡ old → Kept M new old
kept_as is = record { long = ap length is; same = λ _. is }

-- the same by other octets and another condition
pub kept_by : {M N : Type 0} {new old other was : List ℕ} → new ≡ other → old ≡ was → (N → M) → Kept M other was
    → Kept N new old
kept_by first second from kept = record {
  long = ap length first ∙ kept.long ∙ sym (ap length second);
  same = λ n. first ∙ kept.same (from n) ∙ sym second;
}

pub front_kept : {M : Type 0} (front : List ℕ) {new old : List ℕ} → Kept M new old
    → Kept M (front ++ new) (front ++ old)
front_kept front {new} {old} kept = record {
  long = length-append front new ∙ ap (λ n. length front + n) kept.long ∙ sym (length-append front old);
  same = λ m. ap (λ o. front ++ o) (kept.same m);
}

pub both_kept : {M N : Type 0} {a b c d : List ℕ} → Kept M a b → Kept N c d → Kept (M × N) (a ++ c) (b ++ d)
both_kept {a = a} {b = b} {c = c} {d = d} one two =
    let x = length-append a c in
    let y = length-append b d in
    record {
      long = omega (arith, x, y, one.long, two.long);
      same = λ m. ap (λ x. x ++ c) (one.same m.0) ∙ ap (λ y. b ++ y) (two.same m.1);
    }

-- a row of them
pub row_kept : {A B : Type 0} (octets : B → List ℕ) (to : A → B) (was : A → List ℕ) (Minimal Holds : A → Type 0)
    → ((a : A) → Holds a → Kept (Minimal a) (octets (to a)) (was a)) → (row : List A) → AllByRecursion Holds row
    → Kept (AllByRecursion Minimal row) (flat_map octets (map to row)) (flat_map was row)
row_kept octets to was Minimal Holds each [] all = kept_as refl
row_kept octets to was Minimal Holds each (a ∷ row) all = kept_by (flat_map-cons octets (to a) (map to row))
    (flat_map-cons was a row) (λ m. m)
    (both_kept (each a all.0) (row_kept octets to was Minimal Holds each row all.1))

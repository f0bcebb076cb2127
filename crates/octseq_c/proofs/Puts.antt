-- What calls report about the items that they write.
use Rattle.std.specs.Prelude.{◌↔◌, ◌⊎◌, Result, Ok, Err, IsErr, OnErr}
use Rattle.std.proofs.Common.{◌≡◌, ◌≢◌, ℕ, ◌<◌, ◌≤◌, zero, suc, List, length, inl, inr, refl, subst, arith}
use Rattle.octseq_c.specs.Puts.{Copies, FillsPrefix, Puts}

module _ {A : Type 0} {Is : List A → Type 0} {old new : List A} {count : ℕ}
    (one : (items others : List A) → Is items → Is others → items ≡ others) where
  -- items were written
  pub puts_ok : (items : List A) → Is items → length items ≤ length old → count ≡ length items
      → FillsPrefix items old new → Puts Is 0 old new count
  puts_ok items is within reported fills = record {
    ok = λ e. (items, is, within, reported, fills);
    no_room = λ e. absurd (omega arith);
    nothing = λ e. absurd (e refl);
    one = one;
  }

  -- there is no room for them
  pub puts_no_room : (items : List A) → Is items → length old < length items → count ≡ length items
      → Puts Is 1 old new count
  puts_no_room items is short reported = record {
    ok = λ e. absurd (omega arith);
    no_room = λ e. (items, is, short, reported);
    nothing = λ e n. absurd (n refl);
    one = one;
  }

-- none were written, for another reason
pub puts_none : {A : Type 0} {Is : List A → Type 0} {old new : List A} (status : ℕ) → 1 < status
    → ((items others : List A) → Is items → Is others → items ≡ others) → Puts Is status old new 0
puts_none status other one = record {
  ok = λ e. absurd (omega (arith, e));
  no_room = λ e. absurd (omega (arith, e));
  nothing = λ e f. refl;
  one = one;
}

-- the same for another description of the same items
pub puts_as : {A : Type 0} {Is Other : List A → Type 0} {status count : ℕ} {old new : List A}
    → ((items : List A) → Is items → Other items)
    → ((items others : List A) → Other items → Other others → items ≡ others)
    → Puts Is status old new count → Puts Other status old new count
puts_as into one p = record {
  ok = λ e. let q = p.ok e in (q.0, into q.0 q.1, q.2, q.3, q.4);
  no_room = λ e. let q = p.no_room e in (q.0, into q.0 q.1, q.2, q.3);
  nothing = p.nothing;
  one = one;
}

-- a status that is returned exactly if a fact holds

pub reported : {P : Type 0} (status : ℕ) → P → (status ≡ status) ↔ P
reported status p = (λ e. p, λ p. refl)

pub not_reported : {P : Type 0} (status other : ℕ) → status ≢ other → ¬ P → (status ≡ other) ↔ P
not_reported status other n refuted = (λ e. absurd (n e), λ p. absurd (refuted p))

-- what holds if a call fails holds of its error
pub when_err : {T E P : Type 0} (result : Result T E) → (IsErr result → P) → OnErr result P
when_err (Ok value) p = tt
when_err (Err e) p = p refl

-- a call that copies items to the front of a buffer, or none
pub puts_copied : {A : Type 0} {Is : List A → Type 0} {status count : ℕ} {old new : List A}
    → ((items others : List A) → Is items → Is others → items ≡ others) → (items : List A) → Is items
    → count ≡ length items → (status ≡ 0 → (length items ≤ length old) × FillsPrefix items old new)
    → (status ≢ 0 → (status ≡ 1) × (length old < length items) × (new ≡ old)) → Puts Is status old new count
puts_copied one items is reported ok not = record {
  ok = λ e. (items, is, (ok e).0, reported, (ok e).1);
  no_room = λ e. (items, is, (not (λ z. omega (arith, e, z))).1, reported);
  nothing = λ m n. absurd (n (not m).0);
  one = one;
}

-- a call that copies the same items by another name
pub copies : {A : Type 0} {items others : List A} {status count : ℕ} {old new : List A} → items ≡ others
    → count ≡ length items → (status ≡ 0 → (length items ≤ length old) × FillsPrefix items old new)
    → (status ≢ 0 → (status ≡ 1) × (length old < length items) × (new ≡ old)) → Copies others status old new count
copies {status = status} {count = count} {old = old} {new = new} same is ok not =
    subst (λ items. Copies items status old new count) same (record { reported = is; ok = ok; no_room = not })

-- what was copied to the front of a buffer was put there
pub puts_copies : {A : Type 0} {Is : List A → Type 0} {status count : ℕ} {old new : List A}
    → ((items others : List A) → Is items → Is others → items ≡ others) → (items : List A) → Is items
    → Copies items status old new count → Puts Is status old new count
puts_copies one items is copied = puts_copied one items is copied.reported copied.ok copied.no_room

-- a status that a copy reports
pub copied_status : {A : Type 0} {items : List A} {status count : ℕ} {old new : List A}
    → Copies items status old new count → (status ≡ 0) ⊎ (status ≡ 1)
copied_status {status = zero} copied = inl refl
copied_status {status = suc n} copied = inr (copied.no_room (λ z. omega (arith, z))).0

-- a copy reports no other status
pub copied_none : {A : Type 0} {items : List A} {status count : ℕ} {old new : List A} (other : ℕ) → 1 < other
    → Copies items status old new count → status ≢ other
copied_none other more copied e = elim (copied_status copied) [
  | inl ok ↦ absurd (omega (arith, ok, e, more))
  | inr no_room ↦ absurd (omega (arith, no_room, e, more))
]

-- and if it doesn't report that it is done, the buffer is unchanged
pub copied_kept : {A : Type 0} {items : List A} {status count : ℕ} {old new : List A}
    → Copies items status old new count → status ≢ 0 → new ≡ old
copied_kept copied not = (copied.no_room not).2

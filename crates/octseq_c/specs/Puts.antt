-- What a call writes to a caller's buffer.
use Rattle.std.specs.Prelude.{◌≡◌, ◌≢◌, ℕ, ◌<◌, ◌≤◌, List, ◌++◌, length, drop}
use Rattle.octseq_c.specs.Status.{status_ok, status_no_room}

-- the items are at the front of the buffer, and what follows them is unchanged
abbrev pub FillsPrefix : {A : Type 0} → List A → List A → List A → Type 0
FillsPrefix items old new = new ≡ items ++ drop (length items) old

-- A call copies items to the front of a buffer, or nothing if they don't fit.
pub record Copies {A : Type 0} (items : List A) (status : ℕ) (old new : List A) (count : ℕ) : Type 0 where
  pub reported : count ≡ length items
  pub ok : status ≡ status_ok → (length items ≤ length old) × FillsPrefix items old new
  pub no_room : status ≢ status_ok → (status ≡ status_no_room) × (length old < length items) × (new ≡ old)

-- A call that writes items to a buffer, or reports how many there are if they don't fit. `Is` says which items; there
-- is at most one list of them.
pub record Puts {A : Type 0} (Is : List A → Type 0) (status : ℕ) (old new : List A) (count : ℕ) : Type 0 where
  pub ok : status ≡ status_ok → (items : List A)
      × Is items × (length items ≤ length old) × (count ≡ length items) × FillsPrefix items old new
  pub no_room : status ≡ status_no_room → (items : List A)
      × Is items × (length old < length items) × (count ≡ length items)
  pub nothing : status ≢ status_ok → status ≢ status_no_room → count ≡ 0
  pub one : (items others : List A) → Is items → Is others → items ≡ others

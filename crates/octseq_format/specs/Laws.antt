-- What a format says of octets, and the laws of reading and writing by it.
use Rattle.std.specs.Prelude.{◌≡◌, ℕ, ◌+◌, ◌^◌, ◌<◌, ◌≤◌, List, [], ◌++◌, length}
use Rattle.std.proofs.Common.{sym, ap, ◌∙◌, arith, append-nil}
use Rattle.octseq.specs.Window.{Window, left, rest, past}

-- A value is at a window's position, and the second window is past it.
abbrev pub Relation : Type 0 → Type 1
Relation A = Window → A → Window → Type 0

-- no such value is at the position of a window
abbrev pub NoneAt : {A : Type 0} → Relation A → Window → Type 0
NoneAt {A} Is w = (a : A) (v : Window) → Is w a v → ⊥

-- At most one value is there, with one end.
pub record IsOne {A : Type 0} (Is : Relation A) : Type 0 where
  pub same : (w : Window) (a b : A) (u v : Window) → Is w a u → Is w b v → (a ≡ b) × (u ≡ v)

-- The second window has the octets and the end of the first, and its position isn't before the first one's. At least
-- `least` fewer octets are left.
pub record IsOnward {A : Type 0} (least : ℕ) (Is : Relation A) : Type 0 where
  pub on : (w : Window) (a : A) (v : Window) → w.position ≤ w.end → Is w a v
      → (v.octets ≡ w.octets) × (v.end ≡ w.end) × (w.position ≤ v.position) × (v.position ≤ v.end)
  pub less : (w : Window) (a : A) (v : Window) → Is w a v → left v + least ≤ left w

-- A value that says `said` is there, and takes n octets.
pub record TakesOctets {A S : Type 0} (Is : Relation A) (says : A → S) (w : Window) (said : S) (n : ℕ) : Type 0 where
  pub it : A
  pub tells : says it ≡ said
  pub is : Is w it (past n w)

-- If nothing but its octets is left, what was said is there, and takes them all.
pub record IsReadBack {A S : Type 0} (Is : Relation A) (says : A → S) (octets : S → List ℕ)
    (Fits : S → Type 0) : Type 0 where
  pub back : (w : Window) (said : S) → Fits said → rest w ≡ octets said → w.end ≡ w.position + length (octets said)
      → TakesOctets Is says w said (length (octets said))

-- The value takes at least one octet.
pub record IsMoving {A : Type 0} (Is : Relation A) : Type 0 where
  pub on : (w : Window) (a : A) (v : Window) → Is w a v → left v < left w

-- If its octets come next, what was said is there, and takes those alone, whatever follows.
pub record IsDelimited {A S : Type 0} (Is : Relation A) (says : A → S) (octets : S → List ℕ)
    (Fits : S → Type 0) : Type 0 where
  pub next : (w : Window) (said : S) (more : List ℕ) → Fits said → rest w ≡ octets said ++ more
      → TakesOctets Is says w said (length (octets said))

-- Each value that fits has n octets.
abbrev pub AllHave : {S : Type 0} → (S → List ℕ) → (S → Type 0) → ℕ → Type 0
AllHave {S} octets Fits n = (said : S) → Fits said → length (octets said) ≡ n

-- Its lengths fit their fields, and a `usize` can count its octets.
pub record HasOctets {S : Type 0} (octets : S → List ℕ) (Fits : S → Type 0) (said : S) : Type 0 where
  pub fits : Fits said
  pub few : length (octets said) < 2 ^ 64

-- ---- lemmas: proved below this line, so what the words mean is read above it

-- the same for a value by another name
pub one_by : {A B : Type 0} {Is : Relation A} (to : B → A) (from : A → B) → ((b : B) → from (to b) ≡ b) → IsOne Is
    → IsOne (λ w b v. Is w (to b) v)
one_by to from back one = record {
  same = λ w a b u v is other.
      let parts = one.same w (to a) (to b) u v is other in
      (sym (back a) ∙ ap from parts.0 ∙ back b, parts.1);
}

pub moving_of : {A : Type 0} {Is : Relation A} {least : ℕ} → IsOnward least Is → 0 < least → IsMoving Is
moving_of onward some = record { on = λ w a v is. let less = onward.less w a v is in omega (arith, less, some) }

-- what is delimited is read back
pub back_of : {A S : Type 0} {Is : Relation A} {says : A → S} {octets : S → List ℕ} {Fits : S → Type 0}
    → IsDelimited Is says octets Fits → IsReadBack Is says octets Fits
back_of {octets = octets} delimited = record {
  back = λ w said fits all _. delimited.next w said [] fits (all ∙ sym (append-nil (octets said)));
}

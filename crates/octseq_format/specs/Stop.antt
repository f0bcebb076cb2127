-- Where reading stops in octets that no value of a format is in.
use Rattle.std.specs.Prelude.{◌≡◌, ℕ, ◌+◌, ◌-◌, ◌<◌, ◌≤◌, ◌⊎◌, Bool, IsTrue}
use Rattle.std.specs.Prelude.{Option, Some, None, List, refl}
use Rattle.std.proofs.Common.{inl, inr, zero, suc, subst, arith}
use Rattle.octseq.specs.Window.{Window, left, nested}
use Rattle.octseq_format.specs.Conditional.{IsIf}
use Rattle.octseq_format.specs.Family.{ByKey, IsCase, IsEither, IsOther, IsSized, IsWhen}
use Rattle.octseq_format.specs.Keyed.{KeyThen}
use Rattle.octseq_format.specs.Laws.{Relation, NoneAt, IsOne}
use Rattle.octseq_format.specs.Optional.{IsOptional}
use Rattle.octseq_format.specs.Pair.{◌then◌}
use Rattle.octseq_format.specs.Row.{Row}
use Rattle.octseq_format.specs.Tagged.{Tagged}

-- It stops at a position, in a window that has no such value at its position.
abbrev pub Stop : Type 1
Stop = Window → ℕ → Type 0

-- at the window's position: what isn't there has no parts
abbrev pub stops_here : Stop
stops_here w offset = offset ≡ w.position

-- where the first part stops, if it isn't there; otherwise past it, where what follows stops
pub record StopsThen {A : Type 0} (First : Relation A) (one : Stop) (two : A → Stop) (w : Window)
    (offset : ℕ) : Type 0 where
  pub first : NoneAt First w → one w offset
  pub second : (a : A) (v : Window) → First w a v → two a v offset

-- where the one stops if it holds, otherwise where the other does
pub record StopsBy (Holds : Type 0) (one other : Stop) (w : Window) (offset : ℕ) : Type 0 where
  pub yes : Holds → one w offset
  pub no : ¬ Holds → other w offset

-- the first value of a row that isn't there
pub record StopsInRow {A : Type 0} (Is : Relation A) (stop : Stop) (w : Window) (offset : ℕ) : Type 0 where
  pub row : List A
  pub there : Window
  pub passed : Row Is w row there
  pub none : NoneAt Is there
  pub is : stop there offset

-- as many octets as the number says: before them if they aren't there, otherwise in them, or past a value in them
abbrev pub stops_sized : {A : Type 0} → ℕ → Relation A → Stop → ℕ → Stop
stops_sized extra Is stop n w offset = StopsBy ((extra ≤ n) × (n - extra ≤ left w))
    (λ w. StopsThen Is stop (λ _. stops_here) (nested (n - extra) w)) stops_here w offset

-- where reading all octets stops: past a value if more octets follow it
abbrev pub stops_whole : {A : Type 0} → Relation A → Stop → Stop
stops_whole Is stop = StopsThen Is stop (λ _ v offset. (offset ≡ v.position) × (0 < left v))

-- ---- lemmas: proved below this line, so what the words mean is read above it

-- ---- how an offset is found
module _ {A : Type 0} {First : Relation A} {one : Stop} {two : A → Stop} where
  -- in the first part
  pub at_first : (w : Window) (offset : ℕ) → NoneAt First w → one w offset → StopsThen First one two w offset
  at_first w offset none is = record { first = λ _. is; second = λ a v there. absurd (none a v there) }

  -- past it
  pub at_second : IsOne First → (w v : Window) (a : A) (offset : ℕ) → First w a v → two a v offset
      → StopsThen First one two w offset
  at_second single w v a offset is stops = record {
    first = λ none. absurd (none a v is);
    second = λ b u there.
        let same = single.same w a b v u is there in
        subst (λ u. two b u offset) same.1 (subst (λ b. two b v offset) same.0 stops);
  }

pub stops_yes : {Holds : Type 0} {one other : Stop} (w : Window) (offset : ℕ) → Holds → one w offset
    → StopsBy Holds one other w offset
stops_yes w offset holds is = record { yes = λ _. is; no = λ not. absurd (not holds) }

pub stops_no : {Holds : Type 0} {one other : Stop} (w : Window) (offset : ℕ) → ¬ Holds → other w offset
    → StopsBy Holds one other w offset
stops_no w offset not is = record { yes = λ holds. absurd (not holds); no = λ _. is }

module _ {A : Type 0} {Is : Relation A} {stop : Stop} where
  pub stops_in_row : (w u : Window) (offset : ℕ) → (row : List A) × Row Is w row u → NoneAt Is u → stop u offset
      → StopsInRow Is stop w offset
  stops_in_row w u offset passed none is =
      record { row = passed.0; there = u; passed = passed.1; none = none; is = is }

-- ---- what isn't there, by what it is made of
module _ {A B : Type 0} (First : Relation A) (Second : Relation B) where
  pub none_second : (w v : Window) (a : A) → First w a v → NoneAt (First then Second) w → NoneAt Second v
  none_second w v a is none b u second = none (a, b) u (v, is, second)

module _ {A B S : Type 0} (key : S → ℕ) (says : A → S) (First : Relation A)
    (Second : ByKey B) where
  pub none_keyed : (w v : Window) (a : A) → First w a v → NoneAt (KeyThen key says First Second) w
      → NoneAt (Second (key (says a))) v
  none_keyed w v a is none b u second = none (a, b) u (v, is, second)

module _ {A : Type 0} (Number : Relation ℕ) (Is : ByKey A) where
  pub none_tagged : (w v : Window) (n : ℕ) → Number w n v → NoneAt (Tagged Number Is) w → NoneAt (Is n) v
  none_tagged w v n is none a u second = none a u (n, v, is, second)

module _ {A : Type 0} (Is : Relation A) where
  pub none_optional : (w : Window) → NoneAt (IsOptional Is) w → NoneAt Is w
  none_optional w none a v is = by_left (left w) refl where
    by_left : (n : ℕ) → left w ≡ n → ⊥
    by_left zero same = none None w (same, refl)
    by_left (suc n) same = none (Some a) v (omega (arith, same), is)

  pub none_case : (n : ℕ) (w : Window) (key : ℕ) → key ≡ n → NoneAt (IsCase n Is key) w → NoneAt Is w
  none_case n w key same none a v is = none a v (same, is)

  pub none_other : (w : Window) (key : ℕ) → NoneAt (IsOther Is key) w → NoneAt Is w
  none_other w key none a v is = none (key, a) v (refl, is)

  pub none_if : (on : ℕ → Bool) (w : Window) (key : ℕ) → IsTrue (on key) → NoneAt (IsIf on Is key) w → NoneAt Is w
  none_if on w key is_on none a v is = none (Some a) v (is_on, is)

module _ {A : Type 0} (Is : ByKey A) where
  pub none_when : (Holds : ℕ → Type 0) (w : Window) (key : ℕ) → Holds key → NoneAt (IsWhen Holds Is key) w
      → NoneAt (Is key) w
  none_when Holds w key holds none a v is = none a v (holds, is)

module _ {A B : Type 0} (Covers : ℕ → Type 0) (Is : ByKey A) (Other : ByKey B) where
  pub none_first : (w : Window) (key : ℕ) → Covers key → NoneAt (IsEither Covers Is Other key) w → NoneAt (Is key) w
  none_first w key covers none a v is = none (inl a) v (covers, is)

  pub none_other_family : (w : Window) (key : ℕ) → ¬ Covers key → NoneAt (IsEither Covers Is Other key) w
      → NoneAt (Other key) w
  none_other_family w key not none b v is = none (inr b) v (not, is)

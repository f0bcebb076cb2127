-- What fills a window.
use Rattle.std.specs.Prelude.{◌≡◌, ℕ, ◌-◌, ◌<◌, List, [], ◌∷◌, length, Option, Result, IfOk, IsErr, IfSome, IsNone}
use Rattle.std.specs.Prelude.{IsSome}
use Rattle.octseq.specs.Window.{Window, left}
use Rattle.octseq_format.specs.Laws.{Relation, NoneAt}
use Rattle.octseq_format.specs.Row.{Row, RowTo, Holds}

-- a value up to the last octet of a window
abbrev pub Whole : {A : Type 0} → Relation A → Window → A → Type 0
Whole Is w a = (v : Window) × Is w a v × (left v ≡ 0)

-- values of one kind, one after another, up to the last octet of a window
abbrev pub Fills : {A : Type 0} → Relation A → Window → List A → Type 0
Fills Is w row = (v : Window) × RowTo Is w row v

-- some values fill a window
abbrev pub AreFilled : {A : Type 0} → Relation A → Window → Type 0
AreFilled {A} Is w = (row : List A) × Fills Is w row

-- Values, one after another, followed by octets with which none begins: reading stops there.
pub record ListStops {A : Type 0} (Is : Relation A) (w : Window) (offset : ℕ) : Type 0 where
  pub row : List A
  pub there : Window
  pub are : Row Is w row there
  pub some : 0 < left there
  pub none : NoneAt Is there
  pub is : offset ≡ there.position

-- A call returns how many values fill a window, or fails if none do.
pub record Counts {A E : Type 0} (Is : Relation A) (w : Window) (result : Result ℕ E) : Type 0 where
  pub held : IfOk result (λ count. Holds Is w count)
  pub filled : IfOk result (λ count. (held : Holds Is w count) → Fills Is w held.0)
  pub many : IfOk result (λ count. (held : Holds Is w count) → length held.0 ≡ count)
  pub malformed : IsErr result → (row : List A) → ¬ Fills Is w row

-- A call takes the first of `count` values that are ahead, and returns it with what is past it, or nothing if there are
-- none.
pub record TakesFirst {A V P : Type 0} (Is : Relation A) (found : V → A) (after : P → Window) (w : Window)
    (count : ℕ) (result : Option (V × P)) : Type 0 where
  pub none : IsNone result → (held : Holds Is w count) → held.0 ≡ []
  pub some : IsSome result → 0 < count
  pub is : IfSome result (λ it. Is w (found it.0) (after it.1))
  pub more : IfSome result (λ it. Holds Is (after it.1) (count - 1))
  pub first : IfSome result (λ it. (held : Holds Is w count) (more : Holds Is (after it.1) (count - 1))
      → held.0 ≡ found it.0 ∷ more.0)

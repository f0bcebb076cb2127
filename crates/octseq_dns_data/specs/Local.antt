-- Data that is read without the message: it has no names, or names without pointers. It takes its whole window.
use Rattle.std.specs.Prelude.{◌≡◌, ℕ}
use Rattle.octseq.specs.Window.{Window, left, past}
use Rattle.octseq_format.specs.Laws.{Relation}
pub use Rattle.octseq_dns_data.specs.Typed.{form, IsOfClass}

-- a value takes the whole window
abbrev pub TakesWindow : {A : Type 0} → Relation A → Window → A → Type 0
TakesWindow Is w found = Is w found (past (left w) w)

-- Data of a type and a class has the form of the type with the number k, and this was found in its window.
pub record IsLocal (rtype class : ℕ) (inside : Window) (k : ℕ) (found : (form k).Found) : Type 0 where
  pub rtype_is : rtype ≡ k
  pub class_is : IsOfClass k class
  pub whole : TakesWindow (form k).Is inside found

-- data of a type and a class has no such form
abbrev pub NoneLocal : (rtype class : ℕ) → Window → Type 0
NoneLocal rtype class inside = (k : ℕ) (found : (form k).Found) → ¬ IsLocal rtype class inside k found

-- Where nothing of a form is, no data of a type is either.
pub record HasNoData (rtype : ℕ) {A : Type 0} (Is : Relation A) : Type 0 where
  pub none : (inside : Window) → ((other : A) → ¬ TakesWindow Is inside other) → (found : (form rtype).Found)
      → ¬ TakesWindow (form rtype).Is inside found

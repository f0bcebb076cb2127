-- The entries of a checked message are known to be there.
use Rattle.std.proofs.Common.{◌≡◌, ℕ, ◌+◌, ◌<◌, List, [], ◌∷◌, length, subst, arith}
use Rattle.std.proofs.Math.Logic.{∥∥₁_prop, ∥∥₁_elim}
use Rattle.std.specs.Coded.{Coded, Coded-set, coded_list}
use Rattle.octseq.specs.Window.{Window}
use Rattle.octseq_dns_name.specs.Name.{Name, HasName, IsName}
use Rattle.octseq_dns_name.specs.OneName.{Named, named_once, one_name}
use Rattle.octseq_format.specs.Laws.{Relation, IsOne, NoneAt}
use Rattle.octseq_format.specs.Pair.{◌then◌}
use Rattle.octseq_format.specs.Row.{Row, Holds, held_once}
use Rattle.octseq_format.proofs.RowSteps.{held_more, held_then}

-- ---- a name, and what follows it

-- it is known what is at a window's position
abbrev pub Known : {A : Type 0} → Relation A → Window → Type 0
Known {A} Is w = ∥ ((a : A) × (v : Window) × Is w a v) ∥₁

-- a name is known to be there
pub known_name : {A B : Type 0} (parts : A → Name × B) (After : Relation B) (w : Window)
    → Known (λ w a v. (HasName then After) w (parts a) v) w → Named w
known_name parts After w known =
    ∥∥₁_elim known (named_once w) (λ x. ((parts x.0).0.labels, ∣ (x.2.0, x.2.1.1) ∣₁))

-- and what follows it is there
pub known_after : {A B : Type 0} (parts : A → Name × B) (After : Relation B) (w u : Window) (labels : List (List ℕ))
    → Known (λ w a v. (HasName then After) w (parts a) v) w → ∥ IsName w labels u ∥₁ → NoneAt After u → ⊥
known_after parts After w u labels known name none = ∥∥₁_elim known (λ a b. absurd a) (λ x.
    ∥∥₁_elim name (λ a b. absurd a) (λ name.
    let same = (one_name w x.2.0 u (parts x.0).0.labels labels x.2.1.1 name).1 in
    none (parts x.0).1 x.1 (subst (λ u. After u (parts x.0).1 x.1) same x.2.2)))

-- ---- rows that a walk keeps

first_in : {A : Type 0} (Is : Relation A) (w v : Window) (row : List A) → 0 < length row → Row Is w row v
    → (a : A) × (u : Window) × Is w a u
first_in Is w v [] some are = absurd (omega (arith, some))
first_in Is w v (x ∷ row) some are = (x, are.0, are.1)

-- the first of some is known to be there
pub known_first : {A : Type 0} (Is : Relation A) (w : Window) (count : ℕ) (held : Holds Is w count) → 0 < count
    → Known Is w
known_first Is w count held some = ∥∥₁_elim held.1 ∥∥₁_prop (λ x.
    let is = x.1.0 in ∣ first_in Is w x.0 held.0 (omega (arith, is, some)) x.1.1 ∣₁)

module _ {A : Type 0} (code : Coded A) (Is : Relation A) (single : IsOne Is) (w u : Window) (one : A) (count less : ℕ)
    (held : Holds Is w count) (known : ∥ Is w one u ∥₁) (down : count ≡ less + 1)
  where
    -- those after it are kept
    pub known_more : Holds Is u less
    known_more = ∥∥₁_elim known (held_once code Is single u less) (λ is.
        held_more code Is single w u one count less held is down)

    -- and it is the first
    pub known_then : (after : Holds Is u less) → held.0 ≡ one ∷ after.0
    known_then after = ∥∥₁_elim known (Coded-set (coded_list code) held.0 (one ∷ after.0)) (λ is.
        held_then code Is single w u one count less held after is down)

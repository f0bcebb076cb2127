-- What fills a window is read value by value.
use Rattle.std.proofs.Common.{◌≡◌, ℕ, ◌+◌, ◌<◌, ◌≤◌, Bool, Option, List, [], ◌∷◌, length, refl, ap, ◌∙◌, subst, arith}
use Rattle.std.proofs.Math.Logic.{∥∥₁_elim}
use Rattle.std.proofs.lemmas.List.{nil_from_length}
use Rattle.std.proofs.lemmas.List.Sums.{sum_by-cons}
use Rattle.std.specs.Coded.{le_prop}
use mathlib.Core.HLevel.{⊥_prop}
use Rattle.octseq.specs.Window.{Window, left}
use Rattle.octseq_format.proofs.RowSteps.{to_ends}
use Rattle.octseq_format.specs.Counted.{Times, one_times}
use Rattle.octseq_format.specs.Laws.{Relation, NoneAt, IsOne, IsMoving}
use Rattle.octseq_format.specs.Pair.{◌then◌, ◌one_then◌}
use Rattle.octseq_format.specs.Row.{Row, Many, row_turns}
use Rattle.octseq_bgp.specs.Parts.{Attribute, IsAttribute, IsNumber}
use Rattle.octseq_bgp.specs.Fills.{Whole, Fills}
use Rattle.octseq_bgp.specs.OneParts.{one_number}
use Rattle.octseq_mrt.specs.Listed.{AreListed, AllAhead, ahead_once, AttributesAhead, attributes_once}
use Rattle.octseq_mrt.specs.Listed.{EntriesAhead, entries_listed, entries_once}
use Rattle.octseq_mrt.specs.OneListed.{one_entry_parts, entry_parts, entry_from}
use Rattle.octseq_mrt.specs.Rib.{RibEntry, HasEntryParts, IsRibEntry}

row_fits : {A : Type 0} (Is : Relation A) → IsMoving Is → (w v : Window) (row : List A) → Row Is w row v
    → length row + left v ≤ left w
row_fits Is moving w v [] is = let same = ap left is in omega (arith, same)
row_fits Is moving w v (x ∷ row) is =
    let less = moving.on w x is.0 is.1 in
    let more = row_fits Is moving is.0 v row is.2 in
    omega (arith, less, more)

-- what follows the first one
after_first : {A : Type 0} (Is : Relation A) → IsOne Is → IsMoving Is → (w u v : Window) (x : A) (row : List A)
    → Is w x u → left v ≡ 0 → Row Is w row v → (more : List A) × (row ≡ x ∷ more) × Row Is u more v
after_first Is one moving w u v x [] first ends is =
    let same = ap left is in
    let less = moving.on w x u first in
    absurd (omega (arith, same, less, ends))
after_first Is one moving w u v x (y ∷ row) first ends is =
    let same = one.same w y x is.0 u is.1 first in
    (row, ap (λ y. y ∷ row) same.0, subst (λ w. Row Is w row v) same.1 is.2)

module _ {A : Type 0} {Is : Relation A} (listed : AreListed Is) where
  -- no more values than octets are left
  pub ahead_fits : (w : Window) (ahead : AllAhead Is w) → length ahead.0 ≤ left w
  ahead_fits w ahead = ∥∥₁_elim ahead.1 le_prop (λ f.
      let fits = row_fits Is listed.moves w f.0 ahead.0 f.1.0 in omega (arith, fits))

  -- if nothing is left, the list is empty
  pub ahead_none : (w : Window) (ahead : AllAhead Is w) → left w ≡ 0 → ahead.0 ≡ []
  ahead_none w ahead none = nil_from_length ahead.0 (let fits = ahead_fits w ahead in omega (arith, fits, none))

  -- if octets are left, a value is next
  pub ahead_not : (w : Window) (ahead : AllAhead Is w) → 0 < left w → NoneAt Is w → ⊥
  ahead_not w ahead some none = ∥∥₁_elim ahead.1 ⊥_prop (λ f.
      to_ends Is listed.one listed.moves w w f.0 [] ahead.0 none some refl f.1.0 f.1.1)

  pub ahead_more : (w u : Window) (x : A) (ahead : AllAhead Is w) → Is w x u → AllAhead Is u
  ahead_more w u x ahead first = ∥∥₁_elim ahead.1 (ahead_once listed u) (λ f.
      let on = after_first Is listed.one listed.moves w u f.0 x ahead.0 first f.1.1 f.1.0 in
      (on.0, ∣ (f.0, (on.2, f.1.1)) ∣₁))

  -- the first one, and those after it
  pub ahead_then : (w u : Window) (x : A) (ahead : AllAhead Is w) (after : AllAhead Is u) → Is w x u
      → ahead.0 ≡ x ∷ after.0
  ahead_then w u x ahead after first = ∥∥₁_elim ahead.1 (listed.set ahead.0 (x ∷ after.0)) (λ f.
      let on = after_first Is listed.one listed.moves w u f.0 x ahead.0 first f.1.1 f.1.0 in
      on.1 ∙ ap (λ (more : AllAhead Is u). x ∷ more.0) (ahead_once listed u (on.0, ∣ (f.0, (on.2, f.1.1)) ∣₁) after))

  -- what was read is what is kept
  pub ahead_as : (w : Window) (row : List A) (ahead : AllAhead Is w) → Fills Is w row → row ≡ ahead.0
  ahead_as w row ahead fills = ap (λ (all : AllAhead Is w). all.0) (ahead_once listed w (row, ∣ fills ∣₁) ahead)

-- ---- entries of a RIB

-- if the parts of an entry aren't there, the entry isn't
pub no_entry : (paths : Bool) (w : Window) → NoneAt (HasEntryParts paths) w → NoneAt (IsRibEntry paths) w
no_entry paths w none e v is = none (entry_parts e is.octets) v is.parts

-- attributes fill the octets of an entry's parts
pub entry_fills : (paths : Bool) (w u v : Window) (p : ℕ × (ℕ × (Option ℕ × Window))) (e : RibEntry)
    → HasEntryParts paths w p u → IsRibEntry paths w e v → Fills IsAttribute p.1.1.1 e.attributes
entry_fills paths w u v p e are is = subst (λ p. Fills IsAttribute p.1.1.1 e.attributes)
    ((one_entry_parts paths).same w (entry_parts e is.octets) p v u is.parts are).0 is.attributes

first_attributes : (paths : Bool) (w u v : Window) (parts : ℕ × (ℕ × (Option ℕ × Window))) (row : List RibEntry)
    → 0 < left w → HasEntryParts paths w parts u → left v ≡ 0 → Row (IsRibEntry paths) w row v
    → AttributesAhead parts.1.1.1
first_attributes paths w u v parts [] some are ends is =
    let same = ap left is in absurd (omega (arith, same, some, ends))
first_attributes paths w u v parts (e ∷ row) some are ends is =
    (e.attributes, ∣ entry_fills paths w u is.0 parts e are is.1 ∣₁)

-- attributes fill the octets of the first entry
pub attributes_ahead : (paths : Bool) (w u : Window) (parts : ℕ × (ℕ × (Option ℕ × Window)))
    (ahead : EntriesAhead paths w) → 0 < left w → HasEntryParts paths w parts u → AttributesAhead parts.1.1.1
attributes_ahead paths w u parts ahead some are = ∥∥₁_elim ahead.1 (attributes_once parts.1.1.1)
    (λ f. first_attributes paths w u f.0 parts ahead.0 some are f.1.1 f.1.0)

module _ (paths : Bool) (w u : Window) (p : ℕ × (ℕ × (Option ℕ × Window))) (row : List Attribute)
    (ahead : EntriesAhead paths w) (are : HasEntryParts paths w p u) (fills : ∥ Fills IsAttribute p.1.1.1 row ∥₁) where
  -- what follows that entry
  pub entries_more : EntriesAhead paths u
  entries_more = ∥∥₁_elim fills (entries_once paths u) (λ f. ahead_more (entries_listed paths) w u (entry_from p row)
      ahead (record { octets = p.1.1.1; parts = are; attributes = f }))

  -- that entry, and then those after it
  pub entries_then : (after : EntriesAhead paths u) → ahead.0 ≡ entry_from p row ∷ after.0
  entries_then after = ∥∥₁_elim fills ((entries_listed paths).set ahead.0 (entry_from p row ∷ after.0)) (λ f.
      ahead_then (entries_listed paths) w u (entry_from p row) ahead after
      (record { octets = p.1.1.1; parts = are; attributes = f }))

-- reading a row takes at least one turn for each value
pub turns_least : {A : Type 0} (turns : A → ℕ) (row : List A) → length row ≤ row_turns turns row
turns_least turns [] = omega arith
turns_least turns (x ∷ row) =
    let more = turns_least turns row in omega (arith, more, sum_by-cons (λ a. 1 + turns a) x row)

-- ---- two values, a count, and as many more as it says, up to the end of a window

module _ {A B C : Type 0} {First : Relation A} {Second : Relation B} {Is : Relation C} (first : IsOne First)
    (second : IsOne Second) (listed : AreListed Is) where
  -- the first values or the count aren't there
  pub no_head : (w : Window) → NoneAt (First then Second then IsNumber 2) w → (it : A × (B × List C))
      → Whole (First then Second then Times 2 Is) w it → ⊥
  no_head w none it is =
      let one = is.1 in let two = one.2 in let times = two.2 in
      none (it.0, (it.1.0, times.0)) times.1 (one.0, one.1, (two.0, two.1, times.2))

  -- not as many values follow
  pub no_many : (w u : Window) (head : A × (B × ℕ)) → (First then Second then IsNumber 2) w head u
      → NoneAt (Many head.1.1 Is) u → (it : A × (B × List C)) → Whole (First then Second then Times 2 Is) w it → ⊥
  no_many w u head at none it is =
      let one = is.1 in let two = one.2 in let times = two.2 in
      let same = (first one_then second one_then one_number 2).same w (it.0, (it.1.0, times.0)) head times.1 u
      (one.0, one.1, (two.0, two.1, times.2)) at in
      none it.1.1 is.0 (subst (λ u. Many head.1.1 Is u it.1.1 is.0) same.1
      (subst (λ (h : A × (B × ℕ)). Many h.1.1 Is times.1 it.1.1 is.0) same.0 times.3))

  -- octets are left after them
  pub no_end : (w u v : Window) (head : A × (B × ℕ)) (row : List C) → (First then Second then IsNumber 2) w head u
      → Many head.1.1 Is u row v → 0 < left v → (it : A × (B × List C)) → Whole (First then Second then Times 2 Is) w it
      → ⊥
  no_end w u v head row at many some it is =
      let same = (first one_then second one_then one_times 2 Is listed.one).same w it (head.0, (head.1.0, row)) is.0 v
      is.1 (at.0, at.1, (at.2.0, at.2.1, (head.1.1, u, at.2.2, many))) in
      let here = ap left same.1 in let ends = is.2 in
      omega (arith, here, ends, some)

  -- or all of them are there
  pub all_of : (w u v : Window) (head : A × (B × ℕ)) (row : List C) → (First then Second then IsNumber 2) w head u
      → Many head.1.1 Is u row v → left v ≡ 0 → (ahead : AllAhead Is u)
      → Whole (First then Second then Times 2 Is) w (head.0, (head.1.0, ahead.0))
  all_of w u v head row at many ends ahead =
      let same = ahead_as listed u row ahead (v, (many.1, ends)) in
      let kept = subst (λ row. Many head.1.1 Is u row v) same many in
      (v, (at.0, at.1, (at.2.0, at.2.1, (head.1.1, u, at.2.2, kept))), ends)

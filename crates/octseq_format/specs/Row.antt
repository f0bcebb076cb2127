-- Rows: values of one format, one after another.
use Rattle.std.specs.Prelude.{◌≡◌, ℕ, ◌+◌, ◌<◌, ◌≤◌, ◌^◌, List, [], ◌∷◌, ◌++◌, length, map, refl}
use Rattle.std.proofs.Common.{sym, ap, ◌∙◌, subst, suc, arith, length-append, append_assoc, append-nil}
use Rattle.std.proofs.lemmas.List.{length-map}
use Rattle.std.proofs.lemmas.List.Concat.{flat_map-cons}
use Rattle.std.proofs.Math.Logic.{∥∥₁_prop, ∥∥₁_elim}
use Rattle.std.specs.Coded.{Coded, Coded-set, coded_list, le_prop, ×_prop, Unit-prop}
use Rattle.std.specs.List.{AllByRecursion, flat_map, sum_by}
use mathlib.Core.HLevel.{Σ_prop_path}
use Rattle.octseq.specs.Integer.{be, octets_be}
use Rattle.octseq.specs.Window.{Window, left, next, rest, at, past}
use Rattle.octseq.proofs.WindowsAfter.{front_comes_next}
use Rattle.octseq.proofs.Windows.{next_and_rest}
use Rattle.octseq.proofs.WrittenBack.{small_be, as_be}
use Rattle.octseq.proofs.Written.{length_be, value_be}
use Rattle.octseq_format.specs.Canonical.{IsSoundWindow, IsCanonical, sound_past, each_next, many_next}
use Rattle.octseq_format.specs.Laws.{Relation, TakesOctets, IsOne, IsOnward, IsMoving, IsReadBack, IsDelimited, back_of}

abbrev pub Row : {A : Type 0} → Relation A → Relation (List A)
Row Is w [] v = v ≡ w
Row Is w (one ∷ more) v = (u : Window) × Is w one u × Row Is u more v

-- `count` of them
abbrev pub Many : {A : Type 0} → ℕ → Relation A → Relation (List A)
Many count Is w row v = (length row ≡ count) × Row Is w row v

-- `count` of them, up to an offset
abbrev pub ManyTo : {A : Type 0} → ℕ → ℕ → Relation A → Relation (List A)
ManyTo count end Is w row v = Many count Is w row v × (v.position ≡ end)

-- `count` of them are there, and these are they
abbrev pub Holds : {A : Type 0} → Relation A → Window → ℕ → Type 0
Holds {A} Is w count = (row : List A) × ∥ ((end : Window) × Many count Is w row end) ∥₁

-- and this is the offset past them
abbrev pub HoldsTo : {A : Type 0} → Relation A → Window → ℕ → ℕ → Type 0
HoldsTo {A} Is w count end = (row : List A) × ∥ ((v : Window) × ManyTo count end Is w row v) ∥₁

-- a value that takes at least one octet
abbrev pub Moved : {A : Type 0} → Relation A → Relation A
Moved Is w a v = Is w a v × (left v < left w)

-- all up to the end of the window
abbrev pub RowTo : {A : Type 0} → Relation A → Relation (List A)
RowTo Is w row v = Row Is w row v × (left v ≡ 0)

-- the octets of each
abbrev pub row_octets : {S : Type 0} → (S → List ℕ) → List S → List ℕ
row_octets octets said = flat_map octets said

-- the turns of each, and one for each
abbrev pub row_turns : {A : Type 0} → (A → ℕ) → List A → ℕ
row_turns turns row = sum_by (λ a. 1 + turns a) row

-- ---- lemmas: proved below this line, so what the words mean is read above it

-- ---- at most one row
same_cons : {A : Type 0} {a b : A} {more others : List A} → a ≡ b → more ≡ others → a ∷ more ≡ b ∷ others
same_cons {b = b} {more = more} first second = ap (λ a. a ∷ more) first ∙ ap (λ more. b ∷ more) second

-- at most one row of a length
pub one_row : {A : Type 0} (Is : Relation A) → IsOne Is → (w u v : Window) (row others : List A)
    → length row ≡ length others → Row Is w row u → Row Is w others v → (row ≡ others) × (u ≡ v)
one_row Is one w u v [] [] same a b = (refl, a ∙ sym b)
one_row Is one w u v [] (y ∷ others) same a b = absurd (omega (arith, same))
one_row Is one w u v (x ∷ row) [] same a b = absurd (omega (arith, same))
one_row Is one w u v (x ∷ row) (y ∷ others) same a b =
    let begins = one.same w x y a.0 b.0 a.1 b.1 in
    let more = one_row Is one b.0 u v row others (omega (arith, same)) (subst (λ x. Row Is x row u) begins.1 a.2) b.2 in
    (same_cons begins.0 more.0, more.1)

pub one_many : {A : Type 0} (count : ℕ) (Is : Relation A) → IsOne Is → IsOne (Many count Is)
one_many count Is one = record {
  same = λ w row others u v a b. one_row Is one w u v row others (a.0 ∙ sym b.0) a.1 b.1;
}

one_many_to : {A : Type 0} (count end : ℕ) (Is : Relation A) → IsOne Is → IsOne (ManyTo count end Is)
one_many_to count end Is one = record {
  same = λ w row others u v a b. (one_many count Is one).same w row others u v a.0 b.0;
}

-- so it is a fact that there is one
one_held : {A : Type 0} (code : Coded A) (Is : Relation A) → IsOne Is → (w : Window)
    → IsProp ((a : A) × ∥ ((v : Window) × Is w a v) ∥₁)
one_held code Is one w a b =
    let set : IsProp (a.0 ≡ b.0) = Coded-set code a.0 b.0 in
    Σ_prop_path (λ a. ∥∥₁_prop)
    (∥∥₁_elim a.1 set (λ x. ∥∥₁_elim b.1 set (λ y. (one.same w a.0 b.0 x.0 y.0 x.1 y.1).0)))

pub held_once : {A : Type 0} (code : Coded A) (Is : Relation A) → IsOne Is → (w : Window) (count : ℕ)
    → IsProp (Holds Is w count)
held_once code Is one w count = one_held (coded_list code) (Many count Is) (one_many count Is one) w

pub held_to_once : {A : Type 0} (code : Coded A) (Is : Relation A) → IsOne Is → (w : Window) (count end : ℕ)
    → IsProp (HoldsTo Is w count end)
held_to_once code Is one w count end = one_held (coded_list code) (ManyTo count end Is) (one_many_to count end Is one) w

-- ---- rows of values that take octets

-- no more octets are left after a row than before it
pub row_moves : {A : Type 0} (Is : Relation A) → IsMoving Is → (w v : Window) (row : List A)
    → Row Is w row v → left v ≤ left w
row_moves Is moving w v [] is = let same = ap left is in omega (arith, same)
row_moves Is moving w v (x ∷ row) is =
    let one = moving.on w x is.0 is.1 in
    let more = row_moves Is moving is.0 v row is.2 in
    omega (arith, one, more)

-- so the number of octets left after it decides which row it is
pub one_row_to : {A : Type 0} (Is : Relation A) → IsOne Is → IsMoving Is → (w u v : Window) (row others : List A)
    → left u ≡ left v → Row Is w row u → Row Is w others v → (row ≡ others) × (u ≡ v)
one_row_to Is one moving w u v [] [] same a b = (refl, a ∙ sym b)
one_row_to Is one moving w u v [] (y ∷ others) same a b =
    let here = ap left a in
    let first = moving.on w y b.0 b.1 in
    let more = row_moves Is moving b.0 v others b.2 in
    absurd (omega (arith, same, here, first, more))
one_row_to Is one moving w u v (x ∷ row) [] same a b =
    let here = ap left b in
    let first = moving.on w x a.0 a.1 in
    let more = row_moves Is moving a.0 u row a.2 in
    absurd (omega (arith, same, here, first, more))
one_row_to Is one moving w u v (x ∷ row) (y ∷ others) same a b =
    let begins = one.same w x y a.0 b.0 a.1 b.1 in
    let more = one_row_to Is one moving b.0 u v row others same (subst (λ x. Row Is x row u) begins.1 a.2) b.2 in
    (same_cons begins.0 more.0, more.1)

pub one_to : {A : Type 0} (Is : Relation A) → IsOne Is → IsMoving Is → IsOne (RowTo Is)
one_to Is one moving = record {
  same = λ w row others u v a b. one_row_to Is one moving w u v row others (a.1 ∙ sym b.1) a.0 b.0;
}

pub one_moved : {A : Type 0} {Is : Relation A} → IsOne Is → IsOne (Moved Is)
one_moved one = record { same = λ w a b u v is other. one.same w a b u v is.0 other.0 }

pub moving_moved : {A : Type 0} (Is : Relation A) → IsMoving (Moved Is)
moving_moved Is = record { on = λ w a v is. is.1 }

pub onward_moved : {A : Type 0} {Is : Relation A} {least : ℕ} → IsOnward least Is → IsOnward least (Moved Is)
onward_moved onward = record {
  on = λ w a v ordered is. onward.on w a v ordered is.0;
  less = λ w a v is. onward.less w a v is.0;
}

pub delimited_moved : {A S : Type 0} {Is : Relation A} {says : A → S} {octets : S → List ℕ} {Fits : S → Type 0}
    → IsMoving Is → IsDelimited Is says octets Fits → IsDelimited (Moved Is) says octets Fits
delimited_moved moving delimited = record {
  next = λ w said more fits is.
      let taken = delimited.next w said more fits is in
      record { it = taken.it; tells = taken.tells; is = (taken.is, moving.on w taken.it _ taken.is) };
}

-- ---- onward
pub onward_row : {A : Type 0} (Is : Relation A) {least : ℕ} → IsOnward least Is → IsOnward 0 (Row Is)
onward_row {A} Is onward = record { on = on; less = less } where
  on : (w : Window) (row : List A) (v : Window) → w.position ≤ w.end → Row Is w row v
      → (v.octets ≡ w.octets) × (v.end ≡ w.end) × (w.position ≤ v.position) × (v.position ≤ v.end)
  on w [] v ordered is =
      let position = ap (λ (v : Window). v.position) is in
      let end = ap (λ (v : Window). v.end) is in
      (ap (λ (v : Window). v.octets) is, end, omega (arith, position), omega (arith, position, end, ordered))
  on w (x ∷ row) v ordered is =
      let one = onward.on w x is.0 ordered is.1 in
      let more = on is.0 row v (omega (arith, one.1, one.2, one.3)) is.2 in
      (more.0 ∙ one.0, more.1 ∙ one.1, omega (arith, one.2, more.2), more.3)

  less : (w : Window) (row : List A) (v : Window) → Row Is w row v → left v + 0 ≤ left w
  less w [] v is = let same = ap left is in omega (arith, same)
  less w (x ∷ row) v is =
      let one = onward.less w x is.0 is.1 in
      let more = less is.0 row v is.2 in
      omega (arith, one, more)

pub onward_to : {A : Type 0} (Is : Relation A) {least : ℕ} → IsOnward least Is → IsOnward 0 (RowTo Is)
onward_to Is onward = record {
  on = λ w row v ordered is. (onward_row Is onward).on w row v ordered is.0;
  less = λ w row v is. (onward_row Is onward).less w row v is.0;
}

-- ---- read back
module _ {A S : Type 0} (Is : Relation A) (says : A → S) (octets : S → List ℕ) (Fits : S → Type 0)
    (delimited : IsDelimited Is says octets Fits) where
  -- if the octets of each come next, a row of them is there
  pub row_next : (w : Window) (said : List S) (more : List ℕ) → AllByRecursion Fits said
      → rest w ≡ row_octets octets said ++ more
      → TakesOctets (Row Is) (map says) w said (length (row_octets octets said))
  row_next w [] more fits is = record { it = []; tells = refl; is = ap (λ p. at p w) (omega arith) }
  row_next w (one ∷ others) more fits is =
      let x = octets one in
      let y = row_octets octets others in
      let both : row_octets octets (one ∷ others) ≡ x ++ y = flat_map-cons octets one others in
      let apart : rest w ≡ x ++ (y ++ more) = is ∙ ap (λ o. o ++ more) both ∙ append_assoc x y more in
      let come = front_comes_next w x (y ++ more) (length x) apart refl in
      let first = delimited.next w one (y ++ more) fits.0 apart in
      let then = row_next (past (length x) w) others more fits.1 come.2 in
      let long : length (row_octets octets (one ∷ others)) ≡ length x + length y = ap length both ∙ length-append x y in
      record {
        it = first.it ∷ then.it;
        tells = same_cons first.tells then.tells;
        is = (
          past (length x) w,
          first.is,
          subst (Row Is (past (length x) w) then.it) (ap (λ p. at p w) (omega (arith, long))) then.is,
        );
      }

  pub to_read_back : IsReadBack (RowTo Is) (map says) (row_octets octets) (AllByRecursion Fits)
  to_read_back = record {
    back = λ w said fits is all.
        let row = row_next w said [] fits (is ∙ sym (append-nil (row_octets octets said))) in
        record { it = row.it; tells = row.tells; is = (row.is, omega (arith, all)) };
  }

-- ---- written as they were read
pub each_once : {S : Type 0} {Fits : S → Type 0} → ((said : S) → IsProp (Fits said)) → (said : List S)
    → IsProp (AllByRecursion Fits said)
each_once once [] = Unit-prop
each_once once (one ∷ said) = ×_prop (once one) (each_once once said)

module _ {A S : Type 0} {Is : Relation A} {says : A → S} {octets : S → List ℕ} {Fits : S → Type 0}
    (canonical : IsCanonical Is says octets Fits) where
  -- the window past a row is sound
  pub sound_row : (w : Window) (row : List A) (v : Window) → IsSoundWindow w → Row Is w row v → IsSoundWindow v
  sound_row w [] v sound is = subst IsSoundWindow (sym is) sound
  sound_row w (x ∷ row) v sound is = sound_row is.0 row v (canonical.on w x is.0 sound is.1) is.2

  pub row_written : (w : Window) (row : List A) (v : Window) → IsSoundWindow w → Row Is w row v
      → AllByRecursion Fits (map says row) × (rest w ≡ row_octets octets (map says row) ++ rest v)
  row_written w [] v sound is = (tt, ap rest (sym is))
  row_written w (x ∷ row) v sound is =
      let here = canonical.written w x is.0 sound is.1 in
      let there = row_written is.0 row v (canonical.on w x is.0 sound is.1) is.2 in
      let o = octets (says x) in
      let more = row_octets octets (map says row) in (
        (here.0, there.0),
        here.1 ∙ ap (λ more. o ++ more) there.1 ∙ sym (append_assoc o more (rest v))
            ∙ ap (λ all. all ++ rest v) (sym (flat_map-cons octets (says x) (map says row))),
      )

  pub canonical_to : IsCanonical (RowTo Is) (map says) (row_octets octets) (AllByRecursion Fits)
  canonical_to = record {
    once = each_once canonical.once;
    written = λ w row v sound is. row_written w row v sound is.0;
    on = λ w row v sound is. sound_row w row v sound is.0;
  }

pub canonical_moved : {A S : Type 0} {Is : Relation A} {says : A → S} {octets : S → List ℕ} {Fits : S → Type 0}
    → IsCanonical Is says octets Fits → IsCanonical (Moved Is) says octets Fits
canonical_moved canonical = record {
  once = canonical.once;
  written = λ w a v sound is. canonical.written w a v sound is.0;
  on = λ w a v sound is. canonical.on w a v sound is.0;
}

-- Formats with a unique encoding: what was read is written as the octets it was read from.
use Rattle.std.specs.Prelude.{◌≡◌, Bool, true, false, ◌&&◌, IsTrue, refl, ℕ, zero, suc, ◌+◌, ◌-◌, ◌≤◌, List, [], ◌∷◌}
use Rattle.std.specs.Prelude.{◌++◌, length}
use Rattle.std.proofs.Common.{take, drop, length-take, length-drop, ap, sym, subst, arith}
use Rattle.std.proofs.Math.Bool.{true≢false}
pub use Rattle.octseq.proofs.WrittenBack.{AreOctets}
use Rattle.octseq.specs.Window.{Window, left, next, rest, past, nested}
use Rattle.octseq_format.specs.Laws.{Relation, IsOnward}

-- A window on octets that isn't past its end.
pub record IsSoundWindow (w : Window) : Type 0 where
  pub each : AreOctets w.octets
  pub ordered : w.position ≤ w.end
  pub within : w.end ≤ length w.octets

-- What is there fits, in one way, and its octets are the ones that it takes. The window past it is on the same octets.
pub record IsCanonical {A S : Type 0} (Is : Relation A) (says : A → S) (octets : S → List ℕ)
    (Fits : S → Type 0) : Type 0 where
  pub once : (said : S) → IsProp (Fits said)
  pub written : (w : Window) (a : A) (v : Window) → IsSoundWindow w → Is w a v
      → Fits (says a) × (rest w ≡ octets (says a) ++ rest v)
  pub on : (w : Window) (a : A) (v : Window) → IsSoundWindow w → Is w a v → IsSoundWindow v

-- ---- lemmas: proved below this line, so what the words mean is read above it

pub each_taken : (n : ℕ) (xs : List ℕ) → AreOctets xs → AreOctets (take n xs)
each_taken zero xs each = tt
each_taken (suc n) [] each = tt
each_taken (suc n) (x ∷ xs) each = (each.0, each_taken n xs each.1)

pub each_dropped : (n : ℕ) (xs : List ℕ) → AreOctets xs → AreOctets (drop n xs)
each_dropped zero xs each = each
each_dropped (suc n) [] each = tt
each_dropped (suc n) (x ∷ xs) each = each_dropped n xs each.1

-- the next n are octets
pub each_next : (n : ℕ) (w : Window) → IsSoundWindow w → AreOctets (next n w)
each_next n w sound =
    each_taken (w.position + n - w.position) (drop w.position w.octets) (each_dropped w.position w.octets sound.each)

-- and there are n of them
pub many_next : (n : ℕ) (w : Window) → IsSoundWindow w → n ≤ left w → length (next n w) ≡ n
many_next n w sound few =
    let taken = length-take (w.position + n - w.position) (drop w.position w.octets) in
    let dropped = length-drop w.position w.octets in
    omega (arith, taken, dropped, few, sound.within, sound.ordered)

-- the octets that are left are as many as `left` says
pub many_rest : (w : Window) → IsSoundWindow w → length (rest w) ≡ left w
many_rest w sound =
    let taken = length-take (left w) (drop w.position w.octets) in
    let dropped = length-drop w.position w.octets in
    omega (arith, taken, dropped, sound.within, sound.ordered)

pub sound_past : (n : ℕ) (w : Window) → IsSoundWindow w → n ≤ left w → IsSoundWindow (past n w)
sound_past n w sound few =
    record { each = sound.each; ordered = omega (arith, few, sound.ordered); within = sound.within }

pub sound_nested : (n : ℕ) (w : Window) → IsSoundWindow w → n ≤ left w → IsSoundWindow (nested n w)
sound_nested n w sound few = record {
  each = sound.each;
  ordered = omega arith;
  within = omega (arith, few, sound.ordered, sound.within);
}

-- the window past a value is sound
pub sound_on : {A : Type 0} {Is : Relation A} {least : ℕ} → IsOnward least Is → (w : Window) (a : A) (v : Window)
    → IsSoundWindow w → Is w a v → IsSoundWindow v
sound_on onward w a v sound is =
    let on = onward.on w a v sound.ordered is in
    let many = ap length on.0 in
    record {
      each = subst AreOctets (sym on.0) sound.each;
      ordered = on.3;
      within = omega (arith, on.1, many, sound.within);
    }

-- nothing follows if the encoding isn't known to be unique
pub not_one_way : {A S : Type 0} {Is : Relation A} {says : A → S} {octets : S → List ℕ} {Fits : S → Type 0}
    → IsTrue false → IsCanonical Is says octets Fits
not_one_way reported = absurd (true≢false (sym reported))

pub both_ways : (a b : Bool) → IsTrue (a && b) → IsTrue a × IsTrue b
both_ways true b both = (refl, both)
both_ways false b both = absurd (true≢false (sym both))

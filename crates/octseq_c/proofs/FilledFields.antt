-- Rows copied to a buffer after others.
use Rattle.std.proofs.Common.{◌≡◌, ℕ, ◌+◌, ◌<◌, ◌≤◌, List, [], ◌∷◌, ◌++◌, length, take, drop, arith, ap, sym, ◌∙◌}
use Rattle.std.proofs.Common.{refl, length-append}
use Rattle.std.proofs.Math.Seq.{take-append_seam}
use Rattle.octseq.specs.Window.{Window, left}
use Rattle.octseq_format.specs.Laws.{Relation}
use Rattle.octseq_format.specs.Row.{Moved, Row}
use Rattle.octseq_c.specs.Puts.{Copies}
use Rattle.octseq_c.proofs.Placed.{placed_after}

-- the items at the front of a list
pub front_of : {A : Type 0} (rows more front : List A) (n : ℕ) → length rows ≡ n → front ≡ rows ++ more
    → take n front ≡ rows
front_of rows more front n long is =
    ap (take n) is ∙ ap (λ n. take n (rows ++ more)) (sym long) ∙ take-append_seam rows more

-- no more values are there than octets
pub row_few : {A : Type 0} (Is : Relation A) (w v : Window) (row : List A) → Row (Moved Is) w row v
    → length row ≤ left w
row_few Is w v [] is = omega arith
row_few Is w v (x ∷ row) (u, (it, less), more) = let few = row_few Is u v row more in omega (arith, less, few)

module _ {A : Type 0} (front more old : List A) (n count : ℕ) (many : length more ≡ n)
    (counted : count ≡ length front + n) where
  all_many : count ≡ length (front ++ more)
  all_many = let both = length-append front more in omega (arith, both, many, counted)

  -- all fit, and were copied
  pub filled : (mid new : List A) → length front + n ≤ length old → mid ≡ front ++ drop (length front) old
      → new ≡ take (length front) mid ++ (more ++ drop (length front + n) mid) → Copies (front ++ more) 0 old new count
  filled mid new room m e = record {
    reported = all_many;
    ok = λ _. (
      omega (arith, room, all_many, counted),
      placed_after old mid new front more (length front) (length front + n) refl (ap (λ k. length front + k) (sym many))
          m e
          ∙ ap (λ k. (front ++ more) ++ drop k old) (sym counted ∙ all_many),
    );
    no_room = λ failed. absurd (failed refl);
  }

  -- they don't fit
  pub unfilled : (new : List A) → length old < length front + n → new ≡ old → Copies (front ++ more) 1 old new count
  unfilled new short same = record {
    reported = all_many;
    ok = λ e. absurd (omega (arith, e));
    no_room = λ _. (refl, omega (arith, short, all_many, counted), same);
  }

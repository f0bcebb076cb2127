-- Pieces of what is left of a window.
use Rattle.std.proofs.Common.{◌≡◌, ℕ, ◌-◌, ◌<◌, ◌≤◌, if◌then◌else◌, List, length, take, drop, Option, Some, None}
use Rattle.std.proofs.Common.{inl, inr, refl, sym, ap, ◌∙◌, arith}
use Rattle.std.proofs.Math.Nat.{lt_of_not-le}
use Rattle.std.proofs.lemmas.Bool.{le-leb, lt-leb}
use Rattle.std.proofs.lemmas.Bool.Decides.{leb_tells}
use Rattle.std.proofs.lemmas.List.{length-drop, length-take}
use Rattle.std.specs.Option.{option_map}
use Rattle.std.specs.Prelude.{option_and_then}
use Rattle.octseq.specs.Integer.{be}
use Rattle.octseq.specs.Part.{HasPart, part, part_length, past_part}
use Rattle.octseq.specs.Window.{Window, left, next, past, rest}
use Rattle.octseq.proofs.Windows.{next_of_rest, rest_past}
use Rattle.octseq_dns_data.specs.Pieces.{Split, split_number, split_octets, split_pair, split_part}

pub long_rest : (w : Window) → w.position ≤ w.end → w.end ≤ length w.octets → length (rest w) ≡ left w
long_rest w ordered within =
    let taken = length-take (left w) (drop w.position w.octets) in
    let dropped = length-drop w.position w.octets in
    omega (arith, taken, dropped, ordered, within)

pub octets_at : (k : ℕ) (w v : Window) → length (rest w) ≡ left w → k ≤ left w → v ≡ past k w
    → split_octets k (rest w) ≡ Some (next k w, rest v)
octets_at k w v long few moved =
    let test = le-leb k (length (rest w)) (omega (arith, long, few)) in
    let pair : List ℕ → List ℕ → Option (List ℕ × List ℕ) = λ a b. Some (a, b) in
    ap (λ test. if test then pair (take k (rest w)) (drop k (rest w)) else None) test
    ∙ ap (λ a. pair a (drop k (rest w))) (next_of_rest w.octets w.position w.end k few)
    ∙ ap (pair (next k w)) (rest_past w v k few moved)

pub no_octets_at : (k : ℕ) (w : Window) → length (rest w) ≡ left w → left w < k → split_octets k (rest w) ≡ None
no_octets_at k w long many =
    let test = lt-leb k (length (rest w)) (omega (arith, long, many)) in
    let taken : Option (List ℕ × List ℕ) = Some (take k (rest w), drop k (rest w)) in
    ap (λ test. if test then taken else None) test

pub number_at : (k : ℕ) (w v : Window) (n : ℕ) → length (rest w) ≡ left w → k ≤ left w → n ≡ be (next k w)
    → v ≡ past k w → split_number k (rest w) ≡ Some (n, rest v)
number_at k w v n long few is moved =
    let test = le-leb k (length (rest w)) (omega (arith, long, few)) in
    let pair : ℕ → List ℕ → Option (ℕ × List ℕ) = λ a b. Some (a, b) in
    ap (λ test. if test then pair (be (take k (rest w))) (drop k (rest w)) else None) test
    ∙ ap (λ a. pair (be a) (drop k (rest w))) (next_of_rest w.octets w.position w.end k few)
    ∙ ap (λ a. pair a (drop k (rest w))) (sym is) ∙ ap (pair n) (rest_past w v k few moved)

pub no_number_at : (k : ℕ) (w : Window) → length (rest w) ≡ left w → left w < k → split_number k (rest w) ≡ None
no_number_at k w long many =
    let test = lt-leb k (length (rest w)) (omega (arith, long, many)) in
    let taken : Option (ℕ × List ℕ) = Some (be (take k (rest w)), drop k (rest w)) in
    ap (λ test. if test then taken else None) test

-- what is left after a number
long_past : (k : ℕ) (w : Window) → length (rest w) ≡ left w → k ≤ left w → length (rest (past k w)) ≡ left (past k w)
long_past k w long few =
    let after = ap length (rest_past w (past k w) k few refl) in
    let dropped = length-drop k (rest w) in
    omega (arith, after, dropped, long)

pub part_at : (k : ℕ) (w inside v : Window) → length (rest w) ≡ left w → HasPart k w → inside ≡ part k w
    → v ≡ past_part k w → split_part k (rest w) ≡ Some (rest inside, rest v)
part_at k w inside v long has is moved =
    let n = part_length k w in
    ap (option_and_then (λ many. split_octets many.0 many.1)) (number_at k w (past k w) n long has.0 refl refl)
    ∙ octets_at n (past k w) v (long_past k w long has.0) has.1 moved
    ∙ ap (λ (inside : Window). Some (rest inside, rest v)) (sym is)

pub no_part_at : (k : ℕ) (w : Window) → length (rest w) ≡ left w → (HasPart k w → ⊥) → split_part k (rest w) ≡ None
no_part_at k w long none =
    let n = part_length k w in
    let step : Option (ℕ × List ℕ) → Option (List ℕ × List ℕ) =
    option_and_then (λ many. split_octets many.0 many.1) in
    elim (leb_tells k (left w)) as (λ _. split_part k (rest w) ≡ None) [
      | inl (reported, few) ↦ ap step (number_at k w (past k w) n long few refl refl)
          ∙ no_octets_at n (past k w) (long_past k w long few) (lt_of_not-le (λ room. none (few, room)))
      | inr (reported, many) ↦ ap step (no_number_at k w long many)
    ]

module _ {X Y : Type 0} (first : Split X) (second : Split Y) where
  pub pair_at : (octets : List ℕ) (x : X) (more : List ℕ) (y : Y) (rest : List ℕ) → first octets ≡ Some (x, more)
      → second more ≡ Some (y, rest) → split_pair first second octets ≡ Some ((x, y), rest)
  pair_at octets x more y rest one other =
      ap (option_and_then (λ one. option_map (λ other. ((one.0, other.0), other.1)) (second one.1))) one
      ∙ ap (option_map (λ other. ((x, other.0), other.1))) other

  pub no_pair_at : (octets : List ℕ) (x : X) (more : List ℕ) → first octets ≡ Some (x, more) → second more ≡ None
      → split_pair first second octets ≡ None
  no_pair_at octets x more one none =
      ap (option_and_then (λ one. option_map (λ other. ((one.0, other.0), other.1)) (second one.1))) one
      ∙ ap (option_map (λ other. ((x, other.0), other.1))) none

-- What is read from a place in a list of octets.
use Rattle.std.proofs.Common.{◌≡◌, ℕ, ◌+◌, ◌-◌, ◌^◌, ◌<◌, ◌≤◌, List, ◌++◌, length, take}
use Rattle.std.proofs.Common.{drop, arith, refl, sym, subst, ap, ◌∙◌, append_assoc}
use Rattle.std.proofs.Math.Seq.{take-append_seam, take-length, drop-append_seam}
use Rattle.std.proofs.lemmas.List.{length-append}
use Rattle.octseq.specs.Integer.{be, le, octets_be, octets_le}
use Rattle.octseq.specs.Part.{part_of, part_length, HasPart, part, past_part}
use Rattle.octseq.specs.Window.{Window, left, rest, next, past, at, whole, window_after}
use Rattle.octseq.proofs.Codes.{length_rest}
use Rattle.octseq.proofs.Windows.{next_of_rest, rest_past}
use Rattle.octseq.proofs.Written.{length_be, length_le, value_be, value_le}

-- after a front, the number of octets left is the length of what follows it
pub left_after : (front xs : List ℕ) → left (window_after front xs) ≡ length xs
left_after front xs = let all : length (front ++ xs) ≡ length front + length xs = length-append front xs in omega arith

-- and they are what follows it
pub rest_after : (front xs : List ℕ) → rest (window_after front xs) ≡ xs
rest_after front xs =
    ap (λ n. take n (drop (length front) (front ++ xs))) (left_after front xs)
    ∙ ap (take (length xs)) (drop-append_seam front xs) ∙ take-length xs

next_after : (front octets after : List ℕ) (k : ℕ) → length octets ≡ k
    → next k (window_after front (octets ++ after)) ≡ octets
next_after front octets after k many =
    let count : length front + k - length front ≡ length octets = omega (arith, many) in
    ap (λ n. take n (drop (length front) (front ++ (octets ++ after)))) count
    ∙ ap (take (length octets)) (drop-append_seam front (octets ++ after)) ∙ take-append_seam octets after

-- past the octets that follow, what is after them is left
pub past_after : (front octets after : List ℕ) (k : ℕ) → length octets ≡ k
    → past k (window_after front (octets ++ after)) ≡ window_after (front ++ octets) after
past_after front octets after k many =
    let long : length (front ++ octets) ≡ length front + length octets = length-append front octets in
    let place : length front + k ≡ length (front ++ octets) = omega (arith, many, long) in
    ap (λ p. at p (whole (front ++ (octets ++ after)))) place
    ∙ ap (λ all. at (length (front ++ octets)) (whole all)) (sym (append_assoc front octets after))

-- ---- what a parser reads after a front

-- if a front of n octets and more after it are left, the front comes next, and then the rest is left
pub front_comes_next : (w : Window) (front more : List ℕ) (n : ℕ) → rest w ≡ front ++ more → length front ≡ n
    → (n ≤ left w) × (next n w ≡ front) × (rest (past n w) ≡ more)
front_comes_next w front more n is many =
    let all : length (rest w) ≡ length front + length more = ap length is ∙ length-append front more in
    let most = length_rest w in
    let room : n ≤ left w = omega arith in (
      room,
      sym (next_of_rest w.octets w.position w.end n room) ∙ ap (take n) is ∙ ap (λ n. take n (front ++ more)) (sym many)
          ∙ take-append_seam front more,
      sym (rest_past w (past n w) n room refl) ∙ ap (drop n) is ∙ ap (λ n. drop n (front ++ more)) (sym many)
          ∙ drop-append_seam front more,
    )

-- a parser of all the octets that moved past a front of n octets is after that front
pub past_whole : (front more : List ℕ) (n : ℕ) → length front ≡ n
    → past n (whole (front ++ more)) ≡ window_after front more
past_whole front more n many =
    let place : 0 + n ≡ length front = omega arith in
    ap (λ p. at p (whole (front ++ more))) place

-- ---- what the laws say

-- k octets come next, and others are left after them
pub come_next : (front octets after : List ℕ) (k : ℕ) → length octets ≡ k
    → (k ≤ left (window_after front (octets ++ after))) × (next k (window_after front (octets ++ after)) ≡ octets)
    × (rest (past k (window_after front (octets ++ after))) ≡ after)
come_next front octets after k many =
    let all : length (octets ++ after) ≡ length octets + length after = length-append octets after in
    let ahead : left (window_after front (octets ++ after)) ≡ length (octets ++ after) =
    left_after front (octets ++ after) in (
      omega (arith, many, all, ahead),
      next_after front octets after k many,
      ap rest (past_after front octets after k many) ∙ rest_after (front ++ octets) after,
    )

-- after a front, the octets of an integer, big-endian, come next and have its value, and others are left after them
pub be_comes_next : (front after : List ℕ) (k n : ℕ) → n < 256 ^ k
    → (k ≤ left (window_after front (octets_be k n ++ after)))
    × (be (next k (window_after front (octets_be k n ++ after))) ≡ n)
    × (rest (past k (window_after front (octets_be k n ++ after))) ≡ after)
be_comes_next front after k n fits =
    let come = come_next front (octets_be k n) after k (length_be k n) in
    (come.0, ap be come.1 ∙ value_be k n fits, come.2)

-- and so do the octets of an integer, little-endian
pub le_comes_next : (front after : List ℕ) (k n : ℕ) → n < 256 ^ k
    → (k ≤ left (window_after front (octets_le k n ++ after)))
    × (le (next k (window_after front (octets_le k n ++ after))) ≡ n)
    × (rest (past k (window_after front (octets_le k n ++ after))) ≡ after)
le_comes_next front after k n fits =
    let come = come_next front (octets_le k n) after k (length_le k n) in
    (come.0, ap le come.1 ∙ value_le k n fits, come.2)

part_comes_next_by : (front len octets after all : List ℕ) (k : ℕ) → length len ≡ k → be len ≡ length octets
    → all ≡ len ++ (octets ++ after)
    → HasPart k (window_after front all) × (rest (part k (window_after front all)) ≡ octets)
    × (rest (past_part k (window_after front all)) ≡ after)
part_comes_next_by front len octets after all k many value together =
    let w = window_after front all in
    let first = come_next front len (octets ++ after) k many in
    let second = come_next (front ++ len) octets after (length octets) refl in
    let here : w ≡ window_after front (len ++ (octets ++ after)) = ap (window_after front) together in
    let count : part_length k w ≡ length octets = ap (λ w. be (next k w)) here ∙ ap be first.1 ∙ value in
    let after_length : past k w ≡ window_after (front ++ len) (octets ++ after) =
    ap (past k) here ∙ past_after front len (octets ++ after) k many in (
      (
        subst (λ w. k ≤ left w) (sym here) first.0,
        subst (λ n. n ≤ left (past k w)) (sym count) (subst (λ w. length octets ≤ left w) (sym after_length) second.0),
      ),
      ap (λ n. next n (past k w)) count ∙ ap (next (length octets)) after_length ∙ second.1,
      ap (λ n. rest (past n (past k w))) count ∙ ap (λ w. rest (past (length octets) w)) after_length ∙ second.2,
    )

-- after a front, a whole part comes next with its own octets, and others are left after it
pub part_comes_next : (front octets after : List ℕ) (k : ℕ) → length octets < 256 ^ k
    → HasPart k (window_after front (part_of k octets ++ after))
    × (rest (part k (window_after front (part_of k octets ++ after))) ≡ octets)
    × (rest (past_part k (window_after front (part_of k octets ++ after))) ≡ after)
part_comes_next front octets after k fits =
    let len = octets_be k (length octets) in
    part_comes_next_by front len octets after (part_of k octets ++ after) k (length_be k (length octets))
    (value_be k (length octets) fits) (append_assoc len octets after)

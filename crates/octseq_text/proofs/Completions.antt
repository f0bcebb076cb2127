-- What a beginning is with the octets of a piece after it.
use Rattle.std.proofs.Common.{◌≡◌, ◌≢◌, ℕ, ◌+◌, ◌-◌, ◌<◌, ◌≤◌, List, [], ◌∷◌, ◌++◌, length, take, drop, min, refl}
use Rattle.std.proofs.Common.{◌⊎◌, inl, inr, Some, None, arith, ap, sym, ◌∙◌, subst, append_assoc}
use Rattle.std.proofs.Common.{length-append, length-take, length-drop}
use Rattle.std.proofs.Math.Seq.{take-append-add}
use Rattle.std.proofs.lemmas.List.{take_all, take-append-drop, take-take}
use Rattle.octseq_utf8.specs.Encoding.{IsEncoding, encoding_of}
use Rattle.octseq_utf8.specs.Fault.{Fault, IsFaultSize, fault_after}
use Rattle.octseq_utf8.specs.FirstPart.{IsBadFront}
use Rattle.octseq_utf8.specs.Parts.{StartsWith, IsBeginning, IsBadPart}
use Rattle.octseq_utf8.specs.Reading.{width_of, width, part_len, parts_of}
use Rattle.octseq_utf8.specs.Text.{IsWellFormed}
use Rattle.octseq_utf8.proofs.Fits.{beginning_fits, beginning_short, nil_or_some}
use Rattle.octseq_utf8.proofs.Fits.{get_left}
use Rattle.octseq_utf8.proofs.Spelling.{spells_nothing, spells_one}
use Rattle.octseq_utf8.proofs.Splitting.{beginning_fitting, encoding_fitting, parts_bad, parts_encoding, parts_step}
use Rattle.octseq_utf8.proofs.Splitting.{splits}
use Rattle.octseq_text.specs.FaultSearch.{SettlesAfter}
use Rattle.octseq_text.specs.Progress.{IsOpenEnd, HasReadParts}
use Rattle.octseq_text.proofs.BadParts.{bad_more, parts_self}
use Rattle.octseq_text.proofs.Counting.{parts_few}
use Rattle.octseq_text.proofs.FaultSearching.{settled_here}
use Rattle.octseq_text.proofs.Piecewise.{beginning_few, read_bad, read_good}
use Rattle.octseq_text.proofs.Settling.{reads_bad}

-- A beginning and octets of the piece after it, four in all if there are as many.
module _ (begun piece joined : List ℕ) (begins : IsBeginning begun)
    (is : joined ≡ begun ++ take (4 - length begun) piece) where
  some : 1 ≤ length begun
  some = (beginning_fits begins).0

  long : length joined ≡ length begun + min (4 - length begun) (length piece)
  long = ap length is ∙ length-append begun (take (4 - length begun) piece)
      ∙ ap (λ n. length begun + n) (length-take (4 - length begun) piece)

  front : (n : ℕ) → length begun ≤ n → n ≤ length joined → take n joined ≡ begun ++ take (n - length begun) piece
  front n least most =
      let whole : n ≡ length begun + (n - length begun) = omega arith in
      ap (take n) is ∙ ap (λ k. take k (begun ++ take (4 - length begun) piece)) whole
      ∙ take-append-add begun (take (4 - length begun) piece) (n - length begun)
      ∙ ap (λ y. begun ++ y) (take-take (n - length begun) (4 - length begun) piece (omega (arith, long)))

  longer : (n : ℕ) → n ≤ length joined → IsEncoding (take n joined) → length begun < n
  longer n most encoding =
      let few = beginning_few begun begins in
      let lead : width joined ≡ width begun = ap width is
      ∙ ap width_of (get_left begun (take (4 - length begun) piece) 0 some) in
      let whole : width joined ≡ length (take n joined) = ap width (sym (take-append-drop n joined))
      ∙ (encoding_fitting encoding (drop n joined)).1 in
      let short = beginning_short begins in
      omega (arith, length-take n joined)

  -- an encoding at the front has some octets of the piece
  pub encoding_at : (n : ℕ) → n ≤ length joined → IsEncoding (take n joined)
      → (length begun ≤ n) × (n - length begun ≤ length piece)
      × (take n joined ≡ begun ++ take (n - length begun) piece)
  encoding_at n most encoding =
      let more = longer n most encoding in
      (omega arith, omega (arith, long), front n (omega arith) most)

  abbrev rest : List ℕ
  rest = drop (4 - length begun) piece

  bad_whole : (n : ℕ) → take n joined ++ (drop n joined ++ rest) ≡ begun ++ piece
  bad_whole n =
      sym (append_assoc (take n joined) (drop n joined) rest)
      ∙ ap (λ y. y ++ rest) (take-append-drop n joined ∙ is)
      ∙ append_assoc begun (take (4 - length begun) piece) rest
      ∙ ap (λ y. begun ++ y) (take-append-drop (4 - length begun) piece)

  bad_long : (n : ℕ) → IsBadPart joined (take n joined) → n ≤ length joined
      → IsBeginning (take n joined) × (length begun ≤ n)
  bad_long n bad most = go bad.longest
    where
      here : StartsWith begun joined
      here = (take (4 - length begun) piece, is)

      go : (IsBeginning (take n joined)
          × ((other : List ℕ) → StartsWith other joined → IsBeginning other → length other ≤ length (take n joined)))
          ⊎ ((length (take n joined) ≡ 1)
          × ((other : List ℕ) → StartsWith other joined → ¬ IsBeginning other))
          → IsBeginning (take n joined) × (length begun ≤ n)
      go (inl longest) = let most = longest.1 begun here begins in (longest.0, omega (arith, length-take n joined))
      go (inr none) = absurd (none.1 begun here begins)

  not_at_end : (n : ℕ) → IsFaultSize (take n joined) (drop n joined) (Some n)
      → ¬ (IsBeginning (take n joined) × (drop n joined ≡ []))
  not_at_end n (inl unfinished) = let none = unfinished.0 in absurd (cc)
  not_at_end n (inr closed) = closed.1

  -- a bad part that is shorter than they are has some octets of the piece, and is one whatever follows
  pub bad_at : (n : ℕ) → IsBadFront joined (Some n) n
      → (length begun ≤ n) × (n - length begun < length piece) × (n - length begun ≤ 3)
      × IsBadPart (begun ++ piece) (begun ++ take (n - length begun) piece)
  bad_at n bad =
      let size = not_at_end n bad.size in
      let least = bad_long n bad.bad bad.within in
      let after = nil_or_some (drop n joined) (λ none. size (least.0, none)) in
      let alone : IsBadPart (take n joined ++ drop n joined) (take n joined) =
      subst (λ y. IsBadPart y (take n joined)) (sym (take-append-drop n joined)) bad.bad in
      let all = bad_more (take n joined) (drop n joined) rest alone size in
      let few = bad.few in (
        least.1,
        omega (arith, long, length-drop n joined),
        omega arith,
        subst (λ y. IsBadPart y (begun ++ take (n - length begun) piece)) (bad_whole n)
            (subst (λ y. IsBadPart (take n joined ++ (drop n joined ++ rest)) y) (front n least.1 bad.within) all),
      )

  open_all : IsFaultSize (take (length joined) joined) (drop (length joined) joined) None → IsBeginning joined
  open_all (inl unfinished) = subst IsBeginning (take_all (length joined) joined (omega arith)) unfinished.1
  open_all (inr closed) = let some = closed.0 in absurd (cc)

  -- a bad part that is unfinished is a beginning, with all of the piece
  pub open_at : IsBadFront joined None (length joined) → (joined ≡ begun ++ piece) × IsBeginning joined
  open_at bad =
      let unfinished = open_all bad.size in
      let few = beginning_few joined unfinished in
      let few_begun = beginning_few begun begins in
      (is ∙ ap (λ y. begun ++ y) (take_all (4 - length begun) piece (omega (arith, long))), unfinished)

-- the octets of a completed part, and of the piece after it
whole_of : (begun piece part : List ℕ) (n : ℕ) → part ≡ begun ++ take n piece → begun ++ piece ≡ part ++ drop n piece
whole_of begun piece part n is =
    ap (λ y. begun ++ y) (sym (take-append-drop n piece)) ∙ sym (append_assoc begun (take n piece) (drop n piece))
    ∙ ap (λ y. y ++ drop n piece) (sym is)

rest_some : (n : ℕ) (piece : List ℕ) → n < length piece → drop n piece ≢ []
rest_some n piece inside none = absurd (omega (arith, ap length none, length-drop n piece))

-- A character of a beginning and the first n octets of a piece, followed by the rest.
module _ (begun piece part rest : List ℕ) (n : ℕ) (is : part ≡ begun ++ take n piece) (encoding : IsEncoding part)
    (left : rest ≡ drop n piece) where
  whole : part ++ rest ≡ begun ++ piece
  whole = ap (λ y. part ++ y) left ∙ sym (whole_of begun piece part n is)

  pub character_read : (a : List ℕ) → HasReadParts (begun ++ piece) rest a (a ++ part)
  character_read a = subst (λ y. HasReadParts y rest a (a ++ part)) whole (read_good rest a (spells_one encoding))

  pub character_parts : length (parts_of (begun ++ piece)) ≡ 1 + length (parts_of rest)
  character_parts =
      omega (arith, ap (λ y. length (parts_of y)) whole, ap length (parts_encoding encoding rest))

  -- what is so of both is so of all
  pub character_all : (P : List ℕ → Type 0) → P (part ++ rest) → P (begun ++ piece)
  character_all P p = subst P whole p

  pub character_well_formed : IsWellFormed part
  character_well_formed = (_, spells_one encoding)

-- A bad part of a beginning and the first n octets of a piece, followed by the rest.
module _ (begun piece rest : List ℕ) (n : ℕ) (inside : n < length piece)
    (bad : IsBadPart (begun ++ piece) (begun ++ take n piece)) (left : rest ≡ drop n piece) where
  bad_is : begun ++ piece ≡ (begun ++ take n piece) ++ rest
  bad_is = whole_of begun piece (begun ++ take n piece) n refl ∙ ap (λ y. (begun ++ take n piece) ++ y) (sym left)

  here : IsBadPart ((begun ++ take n piece) ++ rest) (begun ++ take n piece)
  here = subst (λ y. IsBadPart y (begun ++ take n piece)) bad_is bad

  followed : ¬ (IsBeginning (begun ++ take n piece) × (rest ≡ []))
  followed unfinished = rest_some n piece inside (sym left ∙ unfinished.1)

  pub invalid_read : (a : List ℕ) → HasReadParts (begun ++ piece) rest a (a ++ encoding_of 0xFFFD)
  invalid_read a =
      subst (λ y. HasReadParts y rest a (a ++ encoding_of 0xFFFD)) (sym bad_is)
      (read_bad (begun ++ take n piece) rest a (reads_bad (begun ++ take n piece) rest here followed))

  pub invalid_parts : length (parts_of (begun ++ piece)) ≡ 1 + length (parts_of rest)
  invalid_parts =
      omega (arith, ap (λ y. length (parts_of y)) bad_is, ap length (parts_bad (begun ++ take n piece) rest here))

  -- it is the fault
  pub invalid_fault : (passed len : ℕ) (reported : Fault) → len ≡ length (begun ++ take n piece)
      → reported ≡ fault_after passed (record { place = 0; size = Some len })
      → SettlesAfter passed (begun ++ piece) reported
  invalid_fault passed len reported long same =
      settled_here passed
      (record {
        before = [];
        bad = begun ++ take n piece;
        after = rest;
        whole = bad_is;
        good = ([], spells_nothing);
        first = here;
        place = refl;
        size = inr (ap Some long, followed);
      })
      (λ none. absurd (cc)) same

-- a beginning is one part
pub open_parts : (begun piece end : List ℕ) → end ≡ begun ++ piece → IsBeginning end
    → length (parts_of (begun ++ piece)) ≡ 1
open_parts begun piece end is begins = ap (λ y. length (parts_of y)) (sym is) ∙ ap length (parts_self end begins)

-- and has at most three octets
pub open_few : (begun piece end : List ℕ) → end ≡ begun ++ piece → IsBeginning end → length piece ≤ 3
open_few begun piece end is begins =
    let few = beginning_few end begins in omega (arith, ap length is, length-append begun piece)

-- an unfinished end and a piece have at most one part more than the piece has octets
pub parts_open : (begun piece : List ℕ) → IsOpenEnd begun → length (parts_of (begun ++ piece)) ≤ length piece + 1
parts_open [] piece unfinished = let few = parts_few (splits piece) in omega arith
parts_open (a ∷ begun) piece unfinished =
    let begins : IsBeginning (a ∷ begun) = unfinished (λ none. absurd (cc)) in
    let x = (a ∷ begun) ++ piece in
    let first = (beginning_fitting x (a ∷ begun) (piece, refl) begins).0 in
    let step = parts_step x (omega arith) in
    let few = parts_few (splits (drop (part_len x) x)) in
    omega (arith, ap length step, length-drop (part_len x) x, length-append begun piece)

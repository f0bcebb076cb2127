-- Split octets: the pieces are those that the octets are made of.
use Rattle.std.proofs.Common.{◌≡◌, ℕ, zero, suc, ◌-◌, ◌^◌, ◌<◌, ◌≤◌, Bool, true, false, if◌then◌else◌, List, []}
use Rattle.std.proofs.Common.{◌∷◌, ◌++◌, length, take, drop, Option, Some, None, nat_le, refl, sym, ap, ◌∙◌, subst}
use Rattle.std.proofs.Common.{append_assoc, arith, length-append}
use Rattle.std.proofs.Math.Seq.{drop-append_seam, take-append_seam}
use Rattle.std.proofs.lemmas.Bool.{leb-true, le-leb}
use Rattle.std.proofs.lemmas.List.{append_cancel_left, length-drop, length-take-le, take-append-drop}
use Rattle.std.proofs.lemmas.List.Concat.{flat_map-cons}
use Rattle.std.proofs.lemmas.Option.{none-some, same_Some}
use Rattle.std.specs.List.{flat_map, AllByRecursion}
use Rattle.std.specs.Option.{option_map, option_map_or}
use Rattle.std.specs.Prelude.{option_and_then}
use Rattle.octseq.specs.Integer.{be, octets_be}
use Rattle.octseq.specs.Part.{part_of}
use Rattle.octseq.proofs.Written.{length_be, value_be}
use Rattle.octseq.proofs.WrittenBack.{AreOctets, as_be, small_be}
use Rattle.octseq_format.specs.Canonical.{each_taken}
use Rattle.octseq_dns_data.specs.Pieces.{Split, split_number, split_octets, split_part, split_pair}
use Rattle.octseq_dns_data.specs.Pieces.{pieces, pieces_within}

-- A piece has at least one octet.
pub record IsMoving {X : Type 0} (split : Split X) : Type 0 where
  pub less : (octets : List ℕ) (piece : X × List ℕ) → split octets ≡ Some piece → length piece.1 < length octets

-- The octets of a piece at the front are split into it, and if a piece is split off, its octets are at the front.
pub record IsSplit {X : Type 0} (split : Split X) (octets_of : X → List ℕ) (Fits : X → Type 0) : Type 0 where
  pub moving : IsMoving split
  pub front : (x : X) (more : List ℕ) → Fits x → split (octets_of x ++ more) ≡ Some (x, more)
  pub back : (octets : List ℕ) (piece : X × List ℕ) → AreOctets octets → split octets ≡ Some piece
      → (octets ≡ octets_of piece.0 ++ piece.1) × Fits piece.0

-- ---- the limit doesn't matter if it is at least the number of octets

none_of_nothing : {X : Type 0} (split : Split X) → IsMoving split → (n : ℕ) (octets : List ℕ) → length octets ≤ 0
    → (given : Option (X × List ℕ)) → split octets ≡ given
    → [] ≡ option_map_or (λ piece. piece.0 ∷ pieces_within split n piece.1) given []
none_of_nothing split moving n octets none None is = refl
none_of_nothing split moving n octets none (Some piece) is =
    let less = moving.less octets piece is in
    absurd (omega (arith, less, none))

same_next : {X : Type 0} (split : Split X) (n m : ℕ) (octets : List ℕ) → (given : Option (X × List ℕ))
    → split octets ≡ given
    → ((piece : X × List ℕ) → split octets ≡ Some piece → pieces_within split n piece.1 ≡ pieces_within split m piece.1)
    → option_map_or (λ piece. piece.0 ∷ pieces_within split n piece.1) given []
    ≡ option_map_or (λ piece. piece.0 ∷ pieces_within split m piece.1) given []
same_next split n m octets None is same = refl
same_next split n m octets (Some piece) is same = ap (λ more. piece.0 ∷ more) (same piece is)

pub same_within : {X : Type 0} (split : Split X) → IsMoving split → (n m : ℕ) (octets : List ℕ) → length octets ≤ n
    → length octets ≤ m → pieces_within split n octets ≡ pieces_within split m octets
same_within split moving zero zero octets few less = refl
same_within split moving zero (suc m) octets few less =
    none_of_nothing split moving m octets few (split octets) refl
same_within split moving (suc n) zero octets few less =
    sym (none_of_nothing split moving n octets less (split octets) refl)
same_within split moving (suc n) (suc m) octets few less = same_next split n m octets (split octets) refl
    λ piece is.
    let fewer = moving.less octets piece is in
    same_within split moving n m piece.1 (omega (arith, few, fewer)) (omega (arith, less, fewer))

-- ---- the first piece and those after it

none_within : {X : Type 0} (split : Split X) (n : ℕ) (octets : List ℕ) → split octets ≡ None
    → pieces_within split n octets ≡ []
none_within split zero octets none = refl
none_within split (suc n) octets none =
    ap (λ given. option_map_or (λ piece. piece.0 ∷ pieces_within split n piece.1) given []) none

pub no_pieces : {X : Type 0} (split : Split X) (octets : List ℕ) → split octets ≡ None → pieces split octets ≡ []
no_pieces split octets none = none_within split (length octets) octets none

pub more_pieces : {X : Type 0} (split : Split X) → IsMoving split → (octets : List ℕ) (x : X) (more : List ℕ)
    → split octets ≡ Some (x, more) → pieces split octets ≡ x ∷ pieces split more
more_pieces split moving octets x more is =
    let less = moving.less octets (x, more) is in
    let n = length octets - 1 in
    let one : length octets ≡ suc n = omega (arith, less) in
    ap (λ n. pieces_within split n octets) one
    ∙ ap (λ given. option_map_or (λ piece. piece.0 ∷ pieces_within split n piece.1) given []) is
    ∙ ap (λ more. x ∷ more) (same_within split moving n (length more) more (omega (arith, less)) (omega arith))

-- the octets of pieces are split into them
pub pieces_of_all : {X : Type 0} {split : Split X} {octets_of : X → List ℕ} {Fits : X → Type 0}
    → IsSplit split octets_of Fits → (xs : List X) → AllByRecursion Fits xs → pieces split (flat_map octets_of xs) ≡ xs
pieces_of_all is [] each = refl
pieces_of_all {split = split} {octets_of = octets_of} is (x ∷ xs) each =
    ap (pieces split) (flat_map-cons octets_of x xs)
    ∙ more_pieces split is.moving (octets_of x ++ flat_map octets_of xs) x (flat_map octets_of xs)
    (is.front x (flat_map octets_of xs) each.0)
    ∙ ap (λ more. x ∷ more) (pieces_of_all is xs each.1)

-- ---- tests along the pieces, each by what came before

module _ {X S : Type 0} (Check : S → X → Type 0) (after : X → S) where
  -- each piece passes
  abbrev pub Passes : S → List X → Type 0
  Passes s [] = Unit {0}
  Passes s (x ∷ xs) = Check s x × Passes (after x) xs

module _ {X S : Type 0} (split : Split X) (octets_of : X → List ℕ) (Check : S → X → Type 0) (after : X → S) where
  -- octets are made of pieces that pass
  abbrev pub PassFrom : S → List ℕ → Type 0
  PassFrom s octets = (octets ≡ flat_map octets_of (pieces split octets)) × Passes Check after s (pieces split octets)

  pub pass_end : (s : S) (octets : List ℕ) → length octets ≡ 0 → PassFrom s octets
  pass_end s [] none = (refl, tt)
  pass_end s (o ∷ octets) none = absurd (omega (arith, none))

  pub pass_none : (s : S) (octets : List ℕ) → split octets ≡ None → 0 < length octets → PassFrom s octets → ⊥
  pass_none s octets none some pass =
      let empty = ap length (pass.0 ∙ ap (flat_map octets_of) (no_pieces split octets none)) in
      omega (arith, empty, some)

  module _ {Fits : X → Type 0} (is : IsSplit split octets_of Fits) where
    pub pass_more : (s : S) (octets : List ℕ) (x : X) (more : List ℕ) → AreOctets octets
        → split octets ≡ Some (x, more) → Check s x → PassFrom (after x) more → PassFrom s octets
    pass_more s octets x more each found check pass =
        let all = more_pieces split is.moving octets x more found in (
          (is.back octets (x, more) each found).0 ∙ ap (λ more. octets_of x ++ more) pass.0
              ∙ sym (flat_map-cons octets_of x (pieces split more)) ∙ ap (flat_map octets_of) (sym all),
          subst (Passes Check after s) (sym all) (check, pass.1),
        )

    pub pass_less : (s : S) (octets : List ℕ) (x : X) (more : List ℕ) → AreOctets octets
        → split octets ≡ Some (x, more) → PassFrom s octets → Check s x × PassFrom (after x) more
    pass_less s octets x more each found pass =
        let all = more_pieces split is.moving octets x more found in
        let passes = subst (Passes Check after s) all pass.1 in (
          passes.0,
          (
            append_cancel_left (octets_of x) more (flat_map octets_of (pieces split more))
                (sym (is.back octets (x, more) each found).0 ∙ pass.0 ∙ ap (flat_map octets_of) all
                ∙ flat_map-cons octets_of x (pieces split more)),
            passes.1,
          ),
        )

-- ---- the kinds of pieces

-- a test and its result
pub reported_some : {A : Type 0} (test : Bool) (a b : A)
    → (let given : Option A = if test then Some a else None in given)
    ≡ Some b → (test ≡ true) × (a ≡ b)
reported_some true a b is = (refl, same_Some a b is)
reported_some false a b is = absurd (none-some b is)

-- the results of one step and the next
pub both_some : {A B : Type 0} (next : A → Option B) (given : Option A) (b : B) → option_and_then next given ≡ Some b
    → (a : A) × (given ≡ Some a) × (next a ≡ Some b)
both_some next None b is = absurd (none-some b is)
both_some next (Some a) b is = (a, refl, is)

pub mapped_some : {A B : Type 0} (change : A → B) (given : Option A) (b : B) → option_map change given ≡ Some b
    → (a : A) × (given ≡ Some a) × (change a ≡ b)
mapped_some change None b is = absurd (none-some b is)
mapped_some change (Some a) b is = (a, refl, same_Some (change a) b is)

-- the octets of a front
front_taken : (k : ℕ) (front more : List ℕ) → length front ≡ k
    → (nat_le k (length (front ++ more)) ≡ true) × (take k (front ++ more) ≡ front) × (drop k (front ++ more) ≡ more)
front_taken k front more many = let long = length-append front more in (
  le-leb k (length (front ++ more)) (omega (arith, long, many)),
  subst (λ k. take k (front ++ more) ≡ front) many (take-append_seam front more),
  subst (λ k. drop k (front ++ more) ≡ more) many (drop-append_seam front more),
)

octets_front : (k : ℕ) (front more : List ℕ) → length front ≡ k → split_octets k (front ++ more) ≡ Some (front, more)
octets_front k front more many =
    let taken = front_taken k front more many in
    let pair : List ℕ → List ℕ → Option (List ℕ × List ℕ) = λ a b. Some (a, b) in
    ap (λ test. if test then pair (take k (front ++ more)) (drop k (front ++ more)) else None) taken.0
    ∙ ap (λ a. pair a (drop k (front ++ more))) taken.1 ∙ ap (pair front) taken.2

number_front : (k n : ℕ) (more : List ℕ) → n < 256 ^ k → split_number k (octets_be k n ++ more) ≡ Some (n, more)
number_front k n more small =
    let front = octets_be k n in
    let taken = front_taken k front more (length_be k n) in
    let pair : ℕ → List ℕ → Option (ℕ × List ℕ) = λ a b. Some (a, b) in
    ap (λ test. if test then pair (be (take k (front ++ more))) (drop k (front ++ more)) else None) taken.0
    ∙ ap (λ a. pair (be a) (drop k (front ++ more))) taken.1 ∙ ap (λ a. pair a (drop k (front ++ more)))
    (value_be k n small) ∙ ap (pair n) taken.2

octets_back : (k : ℕ) (octets : List ℕ) (piece : List ℕ × List ℕ) → split_octets k octets ≡ Some piece
    → (octets ≡ piece.0 ++ piece.1) × (length piece.0 ≡ k)
octets_back k octets piece is =
    let taken : List ℕ × List ℕ = (take k octets, drop k octets) in
    let found = reported_some (nat_le k (length octets)) taken piece is in (
      sym (take-append-drop k octets) ∙ ap (λ (p : List ℕ × List ℕ). p.0 ++ p.1) found.1,
      ap (λ (p : List ℕ × List ℕ). length p.0) (sym found.1)
          ∙ length-take-le k octets (leb-true k (length octets) found.0),
    )

number_back : (k : ℕ) (octets : List ℕ) (piece : ℕ × List ℕ) → AreOctets octets → split_number k octets ≡ Some piece
    → (octets ≡ octets_be k piece.0 ++ piece.1) × (piece.0 < 256 ^ k)
number_back k octets piece each is =
    let taken : ℕ × List ℕ = (be (take k octets), drop k octets) in
    let found = reported_some (nat_le k (length octets)) taken piece is in
    let long = length-take-le k octets (leb-true k (length octets) found.0) in
    let front = each_taken k octets each in (
      sym (take-append-drop k octets) ∙ ap (λ front. front ++ drop k octets) (sym (as_be k (take k octets) long front))
          ∙ ap (λ (p : ℕ × List ℕ). octets_be k p.0 ++ p.1) found.1,
      subst (λ (p : ℕ × List ℕ). p.0 < 256 ^ k) found.1
          (subst (λ n. be (take k octets) < 256 ^ n) long (small_be (take k octets) front)),
    )

pub each_after : (front more : List ℕ) → AreOctets (front ++ more) → AreOctets more
each_after [] more each = each
each_after (o ∷ front) more each = each_after front more each.1

pub is_number : (k : ℕ) → 1 ≤ k → IsSplit (split_number k) (octets_be k) (λ n. n < 256 ^ k)
is_number k some = record {
  moving = record {
    less = λ octets piece is.
        let taken : ℕ × List ℕ = (be (take k octets), drop k octets) in
        let found = reported_some (nat_le k (length octets)) taken piece is in
        let within = leb-true k (length octets) found.0 in
        let long = ap (λ (p : ℕ × List ℕ). length p.1) found.1 in
        let dropped = length-drop k octets in
        omega (arith, some, within, long, dropped);
  };
  front = number_front k;
  back = number_back k;
}

pub is_octets : (k : ℕ) → 1 ≤ k → IsSplit (split_octets k) (λ octets. octets) (λ octets. length octets ≡ k)
is_octets k some = record {
  moving = record {
    less = λ octets piece is.
        let found = octets_back k octets piece is in
        let long = ap length found.0 ∙ length-append piece.0 piece.1 in
        omega (arith, some, long, found.1);
  };
  front = λ front more. octets_front k front more;
  back = λ octets piece each. octets_back k octets piece;
}

pub is_part : (k : ℕ) → 1 ≤ k → IsSplit (split_part k) (part_of k) (λ octets. length octets < 256 ^ k)
is_part k some = record {
  moving = record {
    less = λ octets piece is.
        let steps = both_some (λ many. split_octets many.0 many.1) (split_number k octets) piece is in
        let number = (is_number k some).moving.less octets steps.0 steps.1 in
        let found = octets_back steps.0.0 steps.0.1 piece steps.2 in
        let long = ap length found.0 ∙ length-append piece.0 piece.1 in
        omega (arith, number, long);
  };
  front = λ front more small.
      ap (split_part k) (append_assoc (octets_be k (length front)) front more)
      ∙ ap (option_and_then (λ many. split_octets many.0 many.1)) (number_front k (length front) (front ++ more) small)
      ∙ octets_front (length front) front more refl;
  back = λ octets piece each is.
      let steps = both_some (λ many. split_octets many.0 many.1) (split_number k octets) piece is in
      let number = number_back k octets steps.0 each steps.1 in
      let found = octets_back steps.0.0 steps.0.1 piece steps.2 in (
        number.0 ∙ ap (λ more. octets_be k steps.0.0 ++ more) found.0
            ∙ ap (λ n. octets_be k n ++ (piece.0 ++ piece.1)) (sym found.1)
            ∙ sym (append_assoc (octets_be k (length piece.0)) piece.0 piece.1),
        subst (λ n. n < 256 ^ k) (sym found.1) number.1,
      );
}

module _ {X Y : Type 0} {first : Split X} {second : Split Y} {octets_first : X → List ℕ} {octets_second : Y → List ℕ}
    {FitsFirst : X → Type 0} {FitsSecond : Y → Type 0} where
  pub is_pair : IsSplit first octets_first FitsFirst → IsSplit second octets_second FitsSecond
      → IsSplit (split_pair first second) (λ pair. octets_first pair.0 ++ octets_second pair.1)
      (λ pair. FitsFirst pair.0 × FitsSecond pair.1)
  is_pair one other = record {
    moving = record {
      less = λ octets piece is.
          let steps = both_some (λ x. option_map (λ y. ((x.0, y.0), y.1)) (second x.1)) (first octets) piece is in
          let later = mapped_some (λ y. ((steps.0.0, y.0), y.1)) (second steps.0.1) piece steps.2 in
          let less = one.moving.less octets steps.0 steps.1 in
          let fewer = other.moving.less steps.0.1 later.0 later.1 in
          let same = ap (λ p. length p.1) later.2 in
          omega (arith, less, fewer, same);
    };
    front = λ pair more fits.
        ap (split_pair first second) (append_assoc (octets_first pair.0) (octets_second pair.1) more)
        ∙ ap (option_and_then (λ x. option_map (λ y. ((x.0, y.0), y.1)) (second x.1)))
        (one.front pair.0 (octets_second pair.1 ++ more) fits.0)
        ∙ ap (option_map (λ y. ((pair.0, y.0), y.1))) (other.front pair.1 more fits.1);
    back = λ octets piece each is.
        let steps = both_some (λ x. option_map (λ y. ((x.0, y.0), y.1)) (second x.1)) (first octets) piece is in
        let later = mapped_some (λ y. ((steps.0.0, y.0), y.1)) (second steps.0.1) piece steps.2 in
        let here = one.back octets steps.0 each steps.1 in
        let rest = each_after (octets_first steps.0.0) steps.0.1 (subst AreOctets here.0 each) in
        let there = other.back steps.0.1 later.0 rest later.1 in (
          here.0 ∙ ap (λ more. octets_first steps.0.0 ++ more) there.0
              ∙ sym (append_assoc (octets_first steps.0.0) (octets_second later.0.0) later.0.1)
              ∙ ap (λ p. (octets_first p.0.0 ++ octets_second p.0.1) ++ p.1) later.2,
          subst (λ p. FitsFirst p.0.0 × FitsSecond p.0.1) later.2 (here.1, there.1),
        );
  }

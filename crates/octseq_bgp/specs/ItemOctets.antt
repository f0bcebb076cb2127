-- The octets of items of three numbers: large communities (RFC 8092, 3), and address families with flags (RFC 4724, 3,
-- and RFC 7911, 4).
use Rattle.std.specs.Prelude.{◌≡◌, ℕ, suc, ◌+◌, ◌<◌, ◌^◌, List, ◌++◌, length, take, drop}
use Rattle.std.proofs.Common.{ap, sym, ◌∙◌, subst, arith, length-append, length-drop}
use Rattle.std.proofs.Math.Seq.{take-length, take-append_seam, drop-append_seam}
use Rattle.std.proofs.lemmas.List.{drop-drop, length-take-le, take-append-drop}
use Rattle.std.specs.Coded.{×_prop, le_prop}
use Rattle.octseq.proofs.Written.{length_be, value_be}
use Rattle.octseq.specs.Integer.{be, octets_be}
use Rattle.octseq_format.specs.Canonical.{AreOctets, each_taken, each_dropped}
use Rattle.octseq_format.specs.Fixed.{AreFixed}
use Rattle.octseq_format.specs.Integers.{are_be}
use Rattle.octseq_format.specs.Pair.{same_pair}
use Rattle.octseq_bgp.specs.Community.{large_community}
use Rattle.octseq_bgp.specs.FamilyTuple.{family_tuple}

-- three numbers, in i, j and k octets
abbrev pub three_octets : ℕ → ℕ → ℕ → ℕ × (ℕ × ℕ) → List ℕ
three_octets i j k t = octets_be i t.0 ++ (octets_be j t.1.0 ++ octets_be k t.1.1)

-- each fits its octets
abbrev pub FitThree : ℕ → ℕ → ℕ → ℕ × (ℕ × ℕ) → Type 0
FitThree i j k t = (t.0 < 256 ^ i) × ((t.1.0 < 256 ^ j) × (t.1.1 < 256 ^ k))

-- a large community has twelve octets
abbrev pub large_octets : ℕ × (ℕ × ℕ) → List ℕ
large_octets = three_octets 4 4 4

abbrev pub FitsLarge : ℕ × (ℕ × ℕ) → Type 0
FitsLarge = FitThree 4 4 4

-- an address family with flags has four
abbrev pub tuple_octets : ℕ × (ℕ × ℕ) → List ℕ
tuple_octets = three_octets 2 1 1

abbrev pub FitsTuple : ℕ × (ℕ × ℕ) → Type 0
FitsTuple = FitThree 2 1 1

abbrev three : ℕ → ℕ → ℕ → List ℕ → ℕ × (ℕ × ℕ)
three i j k octets = (be (take i octets), (be (take j (drop i octets)), be (take k (drop (i + j) octets))))

-- ---- lemmas: proved below this line, so what the words mean is read above it

-- ---- they are read as the three numbers

-- a list ahead of another is its first part
pub take_front : (xs ys : List ℕ) (n : ℕ) → length xs ≡ n → take n (xs ++ ys) ≡ xs
take_front xs ys n many = subst (λ n. take n (xs ++ ys) ≡ xs) many (take-append_seam xs ys)

pub drop_front : (xs ys : List ℕ) (n : ℕ) → length xs ≡ n → drop n (xs ++ ys) ≡ ys
drop_front xs ys n many = subst (λ n. drop n (xs ++ ys) ≡ ys) many (drop-append_seam xs ys)

pub take_all : (xs : List ℕ) (n : ℕ) → length xs ≡ n → take n xs ≡ xs
take_all xs n many = subst (λ n. take n xs ≡ xs) many (take-length xs)

three_back : (i j k : ℕ) (t : ℕ × (ℕ × ℕ)) → FitThree i j k t → three i j k (three_octets i j k t) ≡ t
three_back i j k t fits =
    let x = octets_be i t.0 in
    let y = octets_be j t.1.0 in
    let z = octets_be k t.1.1 in
    let first = take_front x (y ++ z) i (length_be i t.0) in
    let after = drop_front x (y ++ z) i (length_be i t.0) in
    let second = ap (take j) after ∙ take_front y z j (length_be j t.1.0) in
    let last = sym (drop-drop j i (x ++ (y ++ z))) ∙ ap (drop j) after ∙ drop_front y z j (length_be j t.1.0) in
    let third = ap (take k) last ∙ take_all z k (length_be k t.1.1) in
    same_pair (ap be first ∙ value_be i t.0 fits.0)
    (same_pair (ap be second ∙ value_be j t.1.0 fits.1.0) (ap be third ∙ value_be k t.1.1 fits.1.1))

three_written : (i j k : ℕ) (xs : List ℕ) → length xs ≡ i + (j + k) → AreOctets xs
    → FitThree i j k (three i j k xs) × (three_octets i j k (three i j k xs) ≡ xs)
three_written i j k xs many each =
    let x = take i xs in
    let more = drop i xs in
    let y = take j more in
    let last = drop (i + j) xs in
    let after : length more ≡ j + k = (let dropped = length-drop i xs in omega (arith, dropped, many)) in
    let left : length last ≡ k = (let dropped = length-drop (i + j) xs in omega (arith, dropped, many)) in
    let whole = take_all last k left in
    let first = (are_be i).written x (length-take-le i xs (omega (arith, many))) (each_taken i xs each) in
    let second = (are_be j).written y (length-take-le j more (omega (arith, after)))
    (each_taken j more (each_dropped i xs each)) in
    let third = (are_be k).written (take k last) (ap length whole ∙ left)
    (each_taken k last (each_dropped (i + j) xs each)) in (
      (first.0, (second.0, third.0)),
      ap (λ o. o ++ (octets_be j (be y) ++ octets_be k (be (take k last)))) first.1
          ∙ ap (λ o. x ++ (o ++ octets_be k (be (take k last)))) second.1
          ∙ ap (λ o. x ++ (y ++ o)) (third.1 ∙ whole ∙ sym (drop-drop j i xs))
          ∙ ap (λ o. x ++ o) (take-append-drop j more) ∙ take-append-drop i xs,
    )

pub are_three : (i j k : ℕ) → AreFixed (i + (j + k)) (three i j k) (three_octets i j k) (FitThree i j k)
are_three i j k = record {
  many = λ t _.
      let x = octets_be i t.0 in
      let y = octets_be j t.1.0 in
      let z = octets_be k t.1.1 in
      let outer = length-append x (y ++ z) in
      let inner = length-append y z in
      let a = length_be i t.0 in
      let b = length_be j t.1.0 in
      let c = length_be k t.1.1 in
      omega (arith, outer, inner, a, b, c);
  back = three_back i j k;
  once = λ t. ×_prop (le_prop {n = suc t.0} {m = 256 ^ i})
      (×_prop (le_prop {n = suc t.1.0} {m = 256 ^ j}) (le_prop {n = suc t.1.1} {m = 256 ^ k}));
  written = three_written i j k;
}

pub are_large : AreFixed 12 large_community large_octets FitsLarge
are_large = are_three 4 4 4

pub are_tuple : AreFixed 4 family_tuple tuple_octets FitsTuple
are_tuple = are_three 2 1 1

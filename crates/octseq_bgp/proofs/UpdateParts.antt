-- The parts of an UPDATE in its octets.
use Rattle.std.proofs.Common.{◌≡◌, ℕ, ◌+◌, ◌<◌, ◌≤◌, List, [], ◌++◌, length, take, drop, refl, sym, ap, ◌∙◌}
use Rattle.std.proofs.Common.{subst, arith, append_assoc, length-append, append-nil, Bool, Ok, Err, Result}
use Rattle.std.specs.Prelude.{◌↔◌, true, OnOk, OnErr}
use Rattle.std.proofs.Math.Nat.{lt_of_not-le}
use Rattle.std.proofs.Math.Seq.{take-append_seam, drop-append_seam}
use Rattle.std.proofs.lemmas.List.{take-append-drop, length-take-le, length-drop}
use Rattle.octseq.specs.Integer.{octets_be}
use Rattle.octseq.specs.Part.{part_of}
use Rattle.octseq.specs.Refusal.{IsMalformed, IsMemory, IsShort, write_error}
use Rattle.octseq.proofs.Written.{length_be}
use Rattle.octseq.specs.declared.error.WriteError.{WriteError}
use Rattle.octseq_bgp.specs.Composed.{Extends, header_octets, header_long, message_octets, long_after}
use Rattle.octseq_bgp.specs.PartOctets.{AreParts, Arranges, PartOctets, PutsParts, after_length, parts_in, parts_octets}
use Rattle.octseq_bgp.specs.Written.{body_octets}

part_long : (a : List ℕ) → length (part_of 2 a) ≡ 2 + length a
part_long a = length-append (octets_be 2 (length a)) a ∙ ap (λ n. n + length a) (length_be 2 (length a))

pub body_long : (w a n : List ℕ) → length (body_octets w a n) ≡ 4 + length w + length a + length n
body_long w a n =
    let all = length-append (part_of 2 w) (part_of 2 a ++ n) in
    let rest = length-append (part_of 2 a) n in
    omega (arith, all, rest, part_long w, part_long a)

pub all_long : (w a n : List ℕ) → length (parts_octets w a n) ≡ 23 + length w + length a + length n
all_long w a n =
    let all = long_after (19 + length (body_octets w a n)) 2 (body_octets w a n) in
    omega (arith, all, body_long w a n)

-- ---- the parts of octets that are made of them

parts_back : {B : Type 0} (o : B) (w a n : List ℕ) → parts_in o (parts_octets w a n) (length w) (length a)
    ≡ record { octets = o; withdrawn = w; attributes = a; announced = n }
unfolding header_octets octets_be
parts_back {B} o w a n =
    let rest = part_of 2 a ++ n in
    let with : (x y z : List ℕ) → PartOctets B =
    λ x y z. record { octets = o; withdrawn = x; attributes = y; announced = z } in
    let cut : (x y : List ℕ) → PartOctets B = λ x y. with x (take (length a) (drop 2 y)) (drop (length a) (drop 2 y)) in
    ap (λ x. cut x (drop (length w) (w ++ rest))) (take-append_seam w rest) ∙ ap (cut w) (drop-append_seam w rest)
    ∙ ap (λ x. with w x (drop (length a) (a ++ n))) (take-append_seam a n) ∙ ap (with w a) (drop-append_seam a n)

pub found : {B : Type 0} (o : B) {content : List ℕ} (w a n : List ℕ) {k m : ℕ} → content ≡ parts_octets w a n
    → length w ≡ k → length a ≡ m
    → parts_in o content k m ≡ record { octets = o; withdrawn = w; attributes = a; announced = n }
found o w a n is first second = rw (is, ← first, ← second) (parts_back o w a n)

pub known : {B : Type 0} (o : B) {content : List ℕ} (w a n : List ℕ) {k m : ℕ} → content ≡ parts_octets w a n
    → length w ≡ k → length a ≡ m → length content ≤ 65535 → AreParts content k m (parts_in o content k m)
known o {content} w a n {k} {m} is first second most =
    let long = ap length is ∙ all_long w a n in
    subst (AreParts content k m) (sym (found o w a n is first second)) (record {
      is = is;
      withdrawn_is = first;
      attributes_is = second;
      long = omega (arith, long, first, second);
      most = most;
    })

-- ---- octets that are arranged anew

-- offsets of what is arranged, and how many octets there are in all
pub arranged_long : (W A N w a n : List ℕ) {slice : List ℕ} {at k x y : ℕ}
    → Arranges (after_length W A N) at k slice x y w a n
    → (length w + length a + length n ≡ length W + length A + length N) × (k ≤ length slice)
    × (at + length slice ≤ 2 + length W + length A + length N)
arranged_long W A N w a n g =
    let two = length_be 2 (length A) in
    let was = simp length-append at (ap length g.was) in
    let is = simp length-append at (ap length g.is) in (
      omega (arith, two, was, is, g.over_is, g.between_is),
      omega (arith, g.over_is, g.old_is),
      omega (arith, two, was, g.at_is, g.over_is, g.old_is),
    )

-- a slice was written over others, and then the lengths
pub arranged : (W A N w a n : List ℕ) {old between new slice : List ℕ} {at k x y : ℕ} → old ≡ parts_octets W A N
    → Arranges (after_length W A N) at k slice x y w a n
    → ((p o q r : List ℕ) → old ≡ p ++ (o ++ (q ++ r)) → length p ≡ 21 + at → length o ≡ k
    → length o + length r ≡ length slice → between ≡ p ++ (slice ++ q))
    → ((h u w v a n : List ℕ) → between ≡ h ++ (u ++ (w ++ (v ++ (a ++ n)))) → length h ≡ 19 → length u ≡ 2
    → length w ≡ x → length v ≡ 2 → length a ≡ y → new ≡ h ++ body_octets w a n)
    → new ≡ parts_octets w a n
arranged W A N w a n {slice = slice} is g replace count =
    let total = 19 + length (body_octets W A N) in
    let h = header_octets total 2 in
    let u = octets_be 2 (length W) in
    let front = length-append (h ++ u) g.front in
    let first = length-append h u in
    let apart : parts_octets W A N ≡ (h ++ u) ++ after_length W A N = simp append_assoc in
    let replaced = replace ((h ++ u) ++ g.front) g.replaced g.moved g.over
    (is ∙ apart ∙ ap (λ o. (h ++ u) ++ o) g.was
    ∙ sym (append_assoc (h ++ u) g.front (g.replaced ++ (g.moved ++ g.over))))
    (omega (arith, front, first, header_long total 2, length_be 2 (length W), g.at_is)) g.old_is g.over_is in
    let all = arranged_long W A N w a n g in
    let same : total ≡ 19 + length (body_octets w a n) = omega (arith, all.0, body_long W A N, body_long w a n) in
    count h u w g.between a n
    (replaced ∙ append_assoc (h ++ u) g.front (slice ++ g.moved) ∙ ap (λ o. (h ++ u) ++ o) g.is
    ∙ append_assoc h u (w ++ (g.between ++ (a ++ n))))
    (header_long total 2) (length_be 2 (length W)) g.withdrawn_is g.between_is g.attributes_is
    ∙ ap (λ k. header_octets k 2 ++ body_octets w a n) same

pub arranges_as : {W A N X Y Z slice w a n : List ℕ} {at old k m x y : ℕ} → X ≡ W → Y ≡ A → Z ≡ N → k ≡ x → m ≡ y
    → Arranges (after_length W A N) at old slice x y w a n → Arranges (after_length X Y Z) at old slice k m w a n
arranges_as first second third one two is = rw (first, second, third, one, two) is

-- ---- what a call ensures of the parts

-- a call that put octets stayed within its limit
pub puts_within : {B : Type 0} {most : ℕ} {asks : Bool} {w a n : List ℕ} {old new : PartOctets B}
    → PutsParts most asks (Ok tt) w a n old new → 23 + length w + length a + length n ≤ most
puts_within puts = let less = lt_of_not-le puts.short.1 in omega (arith, less)

-- a call that was refused as short exactly if the message with these parts would be too long
pub puts_by : {B : Type 0} {most long : ℕ} {asks : Bool} {result : Result (Unit {0}) WriteError} {w a n : List ℕ}
    {old new : PartOctets B} → long ≡ 23 + length w + length a + length n → ¬ IsMalformed write_error result
    → (IsShort write_error result ↔ (most < long)) → (IsMemory write_error result → asks ≡ true)
    → OnOk result (new.withdrawn ≡ w) → OnOk result (new.attributes ≡ a) → OnOk result (new.announced ≡ n)
    → OnErr result ((new.withdrawn ≡ old.withdrawn) × (new.attributes ≡ old.attributes)
    × (new.announced ≡ old.announced))
    → PutsParts most asks result w a n old new
puts_by {most = most} {result = result} is fits short memory first second third kept = record {
  withdrawn_is = first;
  attributes_is = second;
  announced_is = third;
  kept = kept;
  fits = fits;
  short = subst (λ k. IsShort write_error result ↔ (most < k)) is short;
  memory = memory;
}

-- octets that were appended to the message are announced prefixes
pub appended : {B : Type 0} (o : B) {most : ℕ} {asks : Bool} {old new : List ℕ} {k m : ℕ} {parts : PartOctets B}
    (tail : List ℕ) (result : Result (Unit {0}) WriteError) → AreParts old k m parts
    → ((kind : ℕ) (body : List ℕ) → old ≡ message_octets kind body
    → Extends write_error most asks result (message_octets kind (body ++ tail)) old new)
    → most ≤ 65535
    → AreParts new k m (parts_in o new k m)
    × PutsParts most asks result parts.withdrawn parts.attributes (parts.announced ++ tail) parts (parts_in o new k m)
appended o {parts = parts} tail (Ok done) are extends few =
    let w = parts.withdrawn in
    let a = parts.attributes in
    let n = parts.announced in
    let done = extends 2 (body_octets w a n) are.is in
    let same : message_octets 2 (body_octets w a n ++ tail) ≡ parts_octets w a (n ++ tail) =
    ap (message_octets 2) (simp append_assoc) in
    let made = found o w a (n ++ tail) (done.ok ∙ same) are.withdrawn_is are.attributes_is in
    let within = lt_of_not-le done.short.1 in (
      known o w a (n ++ tail) (done.ok ∙ same) are.withdrawn_is are.attributes_is
          (omega (arith, within, few, ap length done.ok)),
      puts_by (ap length same ∙ all_long w a (n ++ tail)) done.fits done.short done.memory
          (ap (λ p. p.withdrawn) made) (ap (λ p. p.attributes) made) (ap (λ p. p.announced) made) tt,
    )
appended o {parts = parts} tail (Err e) are extends few =
    let w = parts.withdrawn in
    let a = parts.attributes in
    let n = parts.announced in
    let done = extends 2 (body_octets w a n) are.is in
    let same : message_octets 2 (body_octets w a n ++ tail) ≡ parts_octets w a (n ++ tail) =
    ap (message_octets 2) (simp append_assoc) in
    let made = found o w a n (done.err ∙ are.is) are.withdrawn_is are.attributes_is in (
      known o w a n (done.err ∙ are.is) are.withdrawn_is are.attributes_is
          (omega (arith, ap length done.err, are.most)),
      puts_by (ap length same ∙ all_long w a (n ++ tail)) done.fits done.short done.memory tt tt tt
          (ap (λ p. p.withdrawn) made, ap (λ p. p.attributes) made, ap (λ p. p.announced) made),
    )

-- ---- what each call arranges

pub withdrawn_more : (w a n s : List ℕ) {k : ℕ} → k ≡ length w → Arranges (after_length w a (n ++ s)) k 0 s
    (length w + length s) (length a + 0) (w ++ s) a n
withdrawn_more w a n s offset = record {
  front = w;
  replaced = [];
  moved = octets_be 2 (length a) ++ (a ++ n);
  over = s;
  between = octets_be 2 (length a);
  was = simp append_assoc;
  is = simp append_assoc;
  at_is = sym offset;
  old_is = refl;
  over_is = omega arith;
  withdrawn_is = length-append w s;
  between_is = length_be 2 (length a);
  attributes_is = omega arith;
}

pub attributes_more : (w a n t : List ℕ) → n ≡ [] → Arranges (after_length w a (n ++ t)) 0 0 [] (length w + 0)
    (length a + length t) w (a ++ t) []
attributes_more w a n t none = record {
  front = [];
  replaced = [];
  moved = after_length w a (n ++ t);
  over = [];
  between = octets_be 2 (length a);
  was = sym (append-nil (after_length w a (n ++ t)));
  is = rw none (simp (append_assoc, append-nil));
  at_is = refl;
  old_is = refl;
  over_is = refl;
  withdrawn_is = omega arith;
  between_is = length_be 2 (length a);
  attributes_is = length-append a t;
}

pub attribute_grown : (w a n head more : List ℕ) (at old : ℕ) {k : ℕ} → k ≡ length w → n ≡ [] → at + old ≤ length a
    → old ≤ length head
    → Arranges (after_length w a (n ++ (more ++ drop old head))) (2 + k + at) old head (length w + 0)
    (length a + length (more ++ drop old head)) w (take at a ++ (head ++ (drop old (drop at a) ++ more))) []
attribute_grown w a n head more at old offset none inside fits =
    let rest = drop at a in
    let count = octets_be 2 (length a) in
    let parts : a ≡ take at a ++ (take old rest ++ drop old rest) = sym (simp take-append-drop) in
    let first = length-take-le at a (omega (arith, inside)) in
    let left = length-drop at a in
    let second = length-take-le old rest (omega (arith, inside, left)) in
    let two = length_be 2 (length a) in
    record {
      front = w ++ (count ++ take at a);
      replaced = take old rest;
      moved = drop old rest ++ more;
      over = drop old head;
      between = count;
      was = ap (λ m. w ++ (count ++ (a ++ (m ++ (more ++ drop old head))))) none
          ∙ ap (λ x. w ++ (count ++ (x ++ (more ++ drop old head)))) parts ∙ simp append_assoc;
      is = simp (append_assoc, append-nil);
      at_is = simp length-append (omega (arith, first, two, offset));
      old_is = second;
      over_is = simp length-drop (omega (arith, second, fits));
      withdrawn_is = omega arith;
      between_is = two;
      attributes_is = simp (length-append, length-drop) (omega (arith, first, inside, fits));
    }

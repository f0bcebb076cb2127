-- What was read is written as the octets that it was read from.
use Rattle.std.proofs.Common.{◌≡◌, ℕ, ◌+◌, ◌<◌, ◌≤◌, ◌^◌, Bool, true, false, cond, List, [], ◌∷◌, ◌++◌, length, map}
use Rattle.std.proofs.Common.{take, drop}
use Rattle.std.proofs.Common.{sym, ap, ◌∙◌, subst, arith, append_assoc, append-nil, zero-add}
use Rattle.std.proofs.lemmas.List.Concat.{flat_map-cons}
use Rattle.std.proofs.lemmas.List.Folds.{flat_map-map}
use Rattle.std.specs.List.{AllByRecursion, flat_map}
use Rattle.std.specs.Prelude.{if◌then◌else◌}
use Rattle.octseq.proofs.Codes.{rest_whole}
use Rattle.octseq.proofs.Windows.{next_and_rest}
use Rattle.octseq.specs.Integer.{be, octets_be}
use Rattle.octseq.specs.Part.{part_of}
use Rattle.octseq.specs.Window.{Window, left, next, past, rest, whole}
use Rattle.octseq_format.proofs.Parts.{part_of_counted}
use Rattle.octseq_format.specs.Canonical.{AreOctets as EachOctet, IsCanonical, IsSoundWindow, sound_nested, sound_past}
use Rattle.octseq_format.specs.Counted.{canonical_counted}
use Rattle.octseq_format.specs.Family.{canonical_sized}
use Rattle.octseq_format.specs.Fixed.{canonical_fixed}
use Rattle.octseq_format.specs.Integers.{are_be}
use Rattle.octseq_format.specs.Laws.{Relation}
use Rattle.octseq_format.specs.Pair.{◌then◌}
use Rattle.octseq_format.specs.Rest.{IsRest, canonical_rest}
use Rattle.octseq_format.specs.Row.{Row}
use Rattle.octseq_bgp.specs.Composed.{header_octets, long_after, message_octets}
use Rattle.octseq_bgp.specs.Fills.{Fills, Whole}
use Rattle.octseq_bgp.specs.Message.{IsMessage, Message}
use Rattle.octseq_bgp.specs.NextHop.{AreOctets, IsNextHop}
use Rattle.octseq_bgp.specs.OneOpen.{says_parameter}
use Rattle.octseq_bgp.specs.Open.{length_octets}
use Rattle.octseq_bgp.specs.Parts.{◌deciding◌, Attribute, IsAttribute, IsCounted, IsNext, IsNumber, IsPathPrefix}
use Rattle.octseq_bgp.specs.Parts.{IsPrefix, IsTlv}
use Rattle.octseq_bgp.specs.Parts.{flags_of, inside_of, is_extended, octets_of_bits}
use Rattle.octseq_bgp.specs.Prefix.{AreNlri, Nlri, most_bits, path_nlri, plain_nlri}
use Rattle.octseq_bgp.specs.ReadWritten.{attribute_says, nlri_says}
use Rattle.octseq_bgp.specs.Written.{attribute_octets, hop_octets, length_width, prefix_octets}
use Rattle.octseq_bgp.specs.WrittenOpen.{parameter_octets, parameters_octets}
use Rattle.octseq_bgp.specs.declared.attribute.next_hop.NextHop.{NextHop}
use Rattle.octseq_bgp.specs.declared.attribute.next_hop.NextHop.TheVariants as hop
use Rattle.octseq_bgp.specs.declared.family.Afi.{Afi}
use Rattle.octseq_bgp.specs.declared.family.Afi.TheVariants as addresses
use Rattle.octseq_bgp.specs.declared.family.AfiSafiType.{AfiSafiType}
use Rattle.octseq_bgp.specs.declared.session.SessionConfig.{SessionConfig}
use Rattle.octseq_bgp.proofs.Composing.{header_parts}
use Rattle.octseq_bgp.proofs.WholesBack.{counted_is}

-- The octets that a window has left are these, and then those of a second window, which is sound.
pub record AreBack (w v : Window) (octets : List ℕ) (Holds : Type 0) : Type 0 where
  pub are : rest w ≡ octets ++ rest v
  pub on : IsSoundWindow v
  pub holds : Holds

-- a value is written as the octets that it was read from, and something holds of it
abbrev pub IsBack : {A : Type 0} → Relation A → (A → List ℕ) → (A → Type 0) → Type 0
IsBack {A} Is octets Holds =
    (w : Window) (a : A) (v : Window) → IsSoundWindow w → Is w a v → AreBack w v (octets a) (Holds a)

pub of_canonical : {A S : Type 0} {Is : Relation A} {says : A → S} {octets : S → List ℕ} {Fits : S → Type 0}
    → IsCanonical Is says octets Fits → IsBack Is (λ a. octets (says a)) (λ a. Fits (says a))
of_canonical canonical w a v sound is =
    let it = canonical.written w a v sound is in
    record { are = it.1; on = canonical.on w a v sound is; holds = it.0 }

-- ---- one value

pub number_back : (k : ℕ) → IsBack (IsNumber k) (octets_be k) (λ n. n < 256 ^ k)
number_back k = of_canonical (canonical_fixed (are_be k))

pub rest_back : IsBack IsRest rest IsSoundWindow
rest_back w inside v sound is =
    let it = of_canonical canonical_rest w inside v sound is in
    record { are = it.are; on = it.on; holds = subst IsSoundWindow (sym is.0) sound }

pub counted_back : (k : ℕ)
    → IsBack (IsCounted k) (λ u. part_of k (rest u)) (λ u. IsSoundWindow u × (length (rest u) < 256 ^ k))
counted_back k w inside v sound is =
    let it = of_canonical (canonical_counted canonical_rest) w inside v sound is in
    let part = part_of_counted k w inside v is in
    let after = sound_past k w sound part.0.0 in
    record {
      are = it.are ∙ ap (λ o. o ++ rest v) (counted_is k (λ o. o) (rest inside));
      on = it.on;
      holds = (
        subst IsSoundWindow (sym part.1) (sound_nested (be (next k w)) (past k w) after part.0.1),
        subst (λ n. n < 256 ^ k) (zero-add (length (rest inside))) it.holds.tag_fits,
      );
    }

next_back : (n : ℕ) → IsBack (IsNext n) rest (λ u. length (rest u) ≡ n)
next_back n w inside v sound is =
    let it = of_canonical (canonical_sized canonical_rest n) w inside v sound is in
    record { are = it.are; on = it.on; holds = sym (zero-add (length (rest inside))) ∙ it.holds.many }

octets_back : (k : ℕ) → IsBack (AreOctets k) (λ o. o) (λ _. Unit {0})
octets_back k w o v sound is = record {
  are = sym (next_and_rest w k is.0) ∙ ap (λ o. o ++ rest (past k w)) (sym is.1) ∙ ap (λ v. o ++ rest v) (sym is.2);
  on = subst IsSoundWindow (sym is.2) (sound_past k w sound is.0);
  holds = tt;
}

-- ---- values one after another

deciding_back : {A B : Type 0} {First : Relation A} {Second : A → Relation B} {first : A → List ℕ}
    {second : A → B → List ℕ} {F : A → Type 0} {G : A → B → Type 0} → IsBack First first F
    → ((a : A) → IsBack (Second a) (second a) (G a))
    → IsBack (First deciding Second) (λ p. first p.0 ++ second p.0 p.1) (λ p. F p.0 × G p.0 p.1)
deciding_back {first = first} {second = second} one two w p v sound is =
    let here = one w p.0 is.0 sound is.1 in
    let there = two p.0 is.0 p.1 v here.on is.2 in
    record {
      are = here.are ∙ ap (λ o. first p.0 ++ o) there.are ∙ sym (append_assoc (first p.0) (second p.0 p.1) (rest v));
      on = there.on;
      holds = (here.holds, there.holds);
    }

infixr 5 ◌back_and◌
pub ◌back_and◌ : {A B : Type 0} {First : Relation A} {Second : Relation B} {first : A → List ℕ} {second : B → List ℕ}
    {F : A → Type 0} {G : B → Type 0} → IsBack First first F → IsBack Second second G
    → IsBack (First then Second) (λ p. first p.0 ++ second p.1) (λ p. F p.0 × G p.1)
one back_and two = deciding_back one (λ _. two)

-- nothing is left after what fills a window
all_back : (w v : Window) (octets : List ℕ) → rest w ≡ octets ++ rest v → left v ≡ 0 → rest w ≡ octets
all_back w v octets are none =
    are ∙ ap (λ n. octets ++ take n (drop v.position v.octets)) none ∙ append-nil octets

pub whole_back : {A : Type 0} {Is : Relation A} {octets : A → List ℕ} {Holds : A → Type 0} → IsBack Is octets Holds
    → (w : Window) (a : A) → IsSoundWindow w → Whole Is w a → (rest w ≡ octets a) × Holds a
whole_back {octets = octets} back w a sound is =
    let it = back w a is.0 sound is.1 in
    (all_back w is.0 (octets a) it.are is.2, it.holds)

module _ {A : Type 0} {Is : Relation A} {octets : A → List ℕ} {Holds : A → Type 0} (back : IsBack Is octets Holds) where
  row_back : IsBack (Row Is) (λ row. flat_map octets row) (λ row. AllByRecursion Holds row)
  row_back w [] v sound is = record { are = ap rest (sym is); on = subst IsSoundWindow (sym is) sound; holds = tt }
  row_back w (a ∷ row) v sound is =
      let here = back w a is.0 sound is.1 in
      let there = row_back is.0 row v here.on is.2 in
      record {
        are = here.are ∙ ap (λ o. octets a ++ o) there.are
            ∙ sym (append_assoc (octets a) (flat_map octets row) (rest v))
            ∙ ap (λ o. o ++ rest v) (sym (flat_map-cons octets a row));
        on = there.on;
        holds = (here.holds, there.holds);
      }

  pub fills_back : (w : Window) (row : List A) → IsSoundWindow w → Fills Is w row
      → (rest w ≡ flat_map octets row) × AllByRecursion Holds row
  fills_back w row sound is =
      let it = row_back w row is.0 sound is.1.0 in
      (all_back w is.0 (flat_map octets row) it.are is.1.1, it.holds)

-- ---- prefixes

-- the octets of a prefix that was read
abbrev pub nlri_octets : Nlri → List ℕ
nlri_octets n = prefix_octets (nlri_says n)

-- it has at most 128 bits, and as many octets as they need
abbrev pub HasItsOctets : Nlri → Type 0
HasItsOctets n = (n.bits ≤ 128) × (length (rest n.octets) ≡ octets_of_bits n.bits)

most_few : (afi : Afi) → most_bits afi ≤ 128
most_few addresses.Ipv4 = omega arith
most_few addresses.Ipv6 = omega arith

plain_back : (afi : Afi)
    → IsBack (IsPrefix (most_bits afi)) (λ it. nlri_octets (plain_nlri afi it)) (λ it. HasItsOctets (plain_nlri afi it))
plain_back afi w it v sound is =
    let first = number_back 1 w it.0 is.0 sound is.1 in
    let second = next_back (octets_of_bits it.0) is.0 it.1 v first.on is.2.1 in
    let few = is.2.0 in
    let most = most_few afi in
    record {
      are = first.are ∙ ap (λ o. octets_be 1 it.0 ++ o) second.are
          ∙ sym (append_assoc (octets_be 1 it.0) (rest it.1) (rest v));
      on = second.on;
      holds = (omega (arith, few, most), second.holds);
    }

path_back : (afi : Afi)
    → IsBack (IsPathPrefix (most_bits afi)) (λ it. nlri_octets (path_nlri afi it))
    (λ it. HasItsOctets (path_nlri afi it))
path_back afi w it v sound is =
    let both = (number_back 4 back_and plain_back afi) w it v sound is in
    record { are = both.are; on = both.on; holds = both.holds.1 }

-- so do the prefixes of a row
each_mapped : {A B : Type 0} (to : A → B) (Holds : B → Type 0) (row : List A) → AllByRecursion (λ a. Holds (to a)) row
    → AllByRecursion Holds (map to row)
each_mapped to Holds [] all = tt
each_mapped to Holds (a ∷ row) all = (all.0, each_mapped to Holds row all.1)

named_back : {A : Type 0} {Is : Relation A} (to : A → Nlri)
    → IsBack Is (λ a. nlri_octets (to a)) (λ a. HasItsOctets (to a)) → (w : Window) (row : List Nlri) → IsSoundWindow w
    → (parts : List A) × Fills Is w parts × (row ≡ map to parts)
    → (rest w ≡ flat_map nlri_octets row) × AllByRecursion HasItsOctets row
named_back to back w row sound are =
    let it = fills_back back w are.0 sound are.1 in
    subst (λ row. (rest w ≡ flat_map nlri_octets row) × AllByRecursion HasItsOctets row) (sym are.2)
    (it.0 ∙ sym (flat_map-map nlri_octets to are.0), each_mapped to HasItsOctets are.0 it.1)

pub nlri_back : (paths : Bool) (afi : Afi) (w : Window) (row : List Nlri) → IsSoundWindow w → AreNlri paths afi w row
    → (rest w ≡ flat_map nlri_octets row) × AllByRecursion HasItsOctets row
nlri_back true afi = named_back (path_nlri afi) (path_back afi)
nlri_back false afi = named_back (plain_nlri afi) (plain_back afi)

-- ---- attributes

-- the octets of an attribute that was read
abbrev pub read_octets : Attribute → List ℕ
read_octets a = attribute_octets (attribute_says a)

-- its window is sound, and its length fits
abbrev pub IsAttributeSound : Attribute → Type 0
IsAttributeSound a = IsSoundWindow (inside_of a) × (length (rest (inside_of a)) < 256 ^ length_width (flags_of a))

value_back : (extended : Bool) → IsBack (cond extended (IsCounted 2) (IsCounted 1))
    (λ u. part_of (if extended then 2 else 1) (rest u))
    (λ u. IsSoundWindow u × (length (rest u) < 256 ^ (if extended then 2 else 1)))
value_back true = counted_back 2
value_back false = counted_back 1

attribute_back : IsBack IsAttribute read_octets IsAttributeSound
attribute_back w a v sound is =
    let it = deciding_back (number_back 1) (λ flags. number_back 1 back_and value_back (is_extended flags)) w a v
    sound is in
    record { are = it.are; on = it.on; holds = it.holds.1.1 }

pub attributes_back : (w : Window) (row : List Attribute) → IsSoundWindow w → Fills IsAttribute w row
    → (rest w ≡ flat_map read_octets row) × AllByRecursion IsAttributeSound row
attributes_back = fills_back attribute_back

-- ---- next hops

pub hop_back : (f : AfiSafiType) (w : Window) (h : NextHop) → IsSoundWindow w → IsNextHop f w h → rest w ≡ hop_octets h
hop_back f w (hop.Ipv4 a) sound is = (whole_back (octets_back 4) w a sound is.1).0
hop_back f w (hop.Ipv6 a) sound is = (whole_back (octets_back 16) w a sound is).0
hop_back f w (hop.Ipv6LinkLocal a b) sound is = (whole_back (octets_back 16 back_and octets_back 16) w (a, b) sound
    is).0

-- ---- parameters and capabilities

-- the window of a parameter or of a capability is sound
abbrev pub IsItemSound : ℕ × Window → Type 0
IsItemSound p = IsSoundWindow p.1

tlv_back : (long : Bool) → IsBack (IsTlv (length_octets long)) (λ p. parameter_octets long (says_parameter p))
    IsItemSound
tlv_back long w p v sound is =
    let it = (number_back 1 back_and counted_back (length_octets long)) w p v sound is in
    record { are = it.are; on = it.on; holds = it.holds.1.0 }

pub items_back : (long : Bool) (w : Window) (row : List (ℕ × Window)) → IsSoundWindow w
    → Fills (IsTlv (length_octets long)) w row
    → (rest w ≡ parameters_octets long (map says_parameter row)) × AllByRecursion IsItemSound row
items_back long w row sound is =
    let it = fills_back (tlv_back long) w row sound is in
    (it.0 ∙ sym (flat_map-map (parameter_octets long) says_parameter row), it.1)

-- ---- messages

whole_sound : (octets : List ℕ) → EachOctet octets → IsSoundWindow (whole octets)
whole_sound octets each = record { each = each; ordered = omega arith; within = omega arith }

-- The octets of a message are a header, and those of its body, which is sound. Its length fits two octets.
pub message_back : {s : SessionConfig} {octets : List ℕ} {m : Message} → EachOctet octets → (is : IsMessage s octets m)
    → (octets ≡ message_octets is.kind (rest is.body)) × IsSoundWindow is.body × (length octets < 256 ^ 2)
    × (length octets ≡ 19 + length (rest is.body))
unfolding octets_be
message_back {octets = octets} each is =
    let n = length octets in
    let body = rest is.body in
    let it = whole_back (number_back 16 back_and number_back 2 back_and number_back 1 back_and rest_back)
    (whole octets) _
    (whole_sound octets each) is.header in
    let all : octets ≡ header_octets n is.kind ++ body =
    sym (rest_whole octets) ∙ it.0 ∙ sym (header_parts n is.kind body) in
    let long = ap length all ∙ long_after n is.kind body in
    (all ∙ ap (λ n. header_octets n is.kind ++ body) long, it.1.1.1.1, it.1.1.0, long)

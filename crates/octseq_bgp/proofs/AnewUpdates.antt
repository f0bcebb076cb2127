-- An UPDATE that is written anew has no more octets than it had, and the same ones if it is minimal.
use Rattle.std.proofs.Common.{◌≡◌, ℕ, ◌+◌, ◌*◌, ◌/◌, ◌%◌, ◌^◌, ◌<◌, ◌≤◌, inl, inr, Bool, true, false, List, [], ◌∷◌}
use Rattle.std.proofs.Common.{◌++◌, length}
use Rattle.std.proofs.Common.{get_or, refl, sym, ap, ◌∙◌, subst, arith, append_assoc, length-append}
use Rattle.std.proofs.Math.Decide.{dec_le}
use Rattle.std.proofs.Math.Nat.{div-add-mod, lt_of_not-le, mul_comm}
use Rattle.std.proofs.lemmas.Bool.{false≢true}
use Rattle.std.proofs.lemmas.Bool.Decides.{nat_tests}
use Rattle.std.proofs.lemmas.Grind.{same_number_lists}
use Rattle.std.proofs.lemmas.List.Concat.{flat_map-cons}
use Rattle.std.specs.List.{AllByRecursion, flat_map}
use Rattle.std.specs.Prelude.{◌↔◌, IsTrue, if◌then◌else◌, nat_le}
use Rattle.octseq.proofs.Written.{length_be}
use Rattle.octseq.specs.Integer.{octets_be}
use Rattle.octseq.specs.Part.{part_of}
use Rattle.octseq.specs.Window.{Window, left, rest}
use Rattle.octseq_format.specs.Canonical.{IsSoundWindow, many_rest}
use Rattle.octseq_bgp.specs.Composed.{long_after, message_octets}
use Rattle.octseq_bgp.specs.Family.{afi_number, afi_of, safi_number}
use Rattle.octseq_bgp.specs.Minimal.{AreClear, IsAttributeMinimal, IsClear, IsUpdateMinimal, IsValueMinimal}
use Rattle.octseq_bgp.specs.NextHop.{IsNextHop}
use Rattle.octseq_bgp.specs.Parts.{Attribute, flags_of, inside_of, is_extended, octets_of_bits, type_of}
use Rattle.octseq_bgp.specs.Prefix.{Nlri}
use Rattle.octseq_bgp.specs.PrefixValue.{address_from, bits_after, cleared}
use Rattle.octseq_bgp.specs.ReadWritten.{attribute_says}
use Rattle.octseq_bgp.specs.Rewritten.{AreAttributesAnew, AreFew, IsWritable, IsAttributeAnew, IsUpdateRewritten}
use Rattle.octseq_bgp.specs.Rewritten.{attribute_anew}
use Rattle.octseq_bgp.specs.Rewritten.{attribute_size, flags_anew, prefix_anew, prefixes_anew, value_anew}
use Rattle.octseq_bgp.specs.Session.{adds_path}
use Rattle.octseq_bgp.specs.Update.{IsUpdate, Update}
use Rattle.octseq_bgp.specs.Value.{HasForm, IsReach, IsUnreach, IsValue, Reach, Unreach, Value}
use Rattle.octseq_bgp.specs.Written.{IsHopOf, WrittenAttribute, attribute_octets, attributes_octets, body_octets}
use Rattle.octseq_bgp.specs.Written.{hop_octets}
use Rattle.octseq_bgp.specs.Written.{length_width, path_id_octets, prefix_octets, prefixes_octets}
use Rattle.octseq_bgp.specs.declared.attribute.attribute_type.AttributeType.{AttributeType}
use Rattle.octseq_bgp.specs.declared.attribute.attribute_type.AttributeType.TheVariants as kind
use Rattle.octseq_bgp.specs.declared.attribute.next_hop.NextHop.{NextHop}
use Rattle.octseq_bgp.specs.declared.attribute.next_hop.NextHop.TheVariants as hop
use Rattle.octseq_bgp.specs.declared.family.Afi.TheVariants as addresses
use Rattle.octseq_bgp.specs.declared.family.AfiSafiType.{AfiSafiType}
use Rattle.octseq_bgp.specs.declared.family.AfiSafiType.TheVariants as family
use Rattle.octseq_bgp.specs.declared.session.SessionConfig.{SessionConfig}
use Rattle.octseq_bgp.proofs.Anew.{Kept, Shrinks, both_kept, front_kept, kept_as, kept_by, row_kept}
use Rattle.octseq_bgp.proofs.Kept.{address_at}
use Rattle.octseq_bgp.proofs.Octets.{one_octet, width_extended, width_short}
use Rattle.octseq_bgp.proofs.Prefixes.{address_long}
use Rattle.octseq_bgp.proofs.UpdateParts.{body_long}
use Rattle.octseq_bgp.proofs.WrittenBack.{◌back_and◌, HasItsOctets, IsAttributeSound, attributes_back, counted_back}
use Rattle.octseq_bgp.proofs.WrittenBack.{hop_back}
use Rattle.octseq_bgp.proofs.WrittenBack.{nlri_back, nlri_octets, number_back, read_octets, rest_back, whole_back}

-- ---- prefixes

cleared_none : (z x : ℕ) → x % 2 ^ z ≡ 0 → cleared z x ≡ x
cleared_none z x none =
    let m = 2 ^ z in
    let parts = div-add-mod x m in
    let turned = mul_comm m (x / m) in
    omega (arith, parts, turned, none)

address_kept : (bits : ℕ) (octets : List ℕ) → length octets ≡ octets_of_bits bits
    → Kept ((i : ℕ) → get_or octets i 0 % 2 ^ bits_after bits i ≡ 0)
    (address_from (octets_of_bits bits) 0 bits octets) octets
address_kept bits octets many =
    let n = octets_of_bits bits in
    let long = address_long n 0 bits octets in
    record {
      long = long ∙ sym many;
      same = λ clear. same_number_lists (address_from n 0 bits octets) octets (long ∙ sym many) (λ k below.
          let here : 0 + k ≡ k = omega arith in
          address_at n 0 bits octets k (omega (arith, below, long))
          ∙ ap (λ j. cleared (bits_after bits j) (get_or octets j 0)) here
          ∙ cleared_none (bits_after bits k) (get_or octets k 0) (clear k));
    }

prefix_kept : (n : Nlri) → HasItsOctets n → Kept (IsClear n) (prefix_octets (prefix_anew n)) (nlri_octets n)
prefix_kept n has = front_kept (path_id_octets n.path_id) (front_kept (octets_be 1 n.bits)
    (address_kept n.bits (rest n.octets) has.1))

pub prefixes_kept : (row : List Nlri) → AllByRecursion HasItsOctets row
    → Kept (AreClear row) (prefixes_octets (prefixes_anew row)) (flat_map nlri_octets row)
prefixes_kept = row_kept prefix_octets prefix_anew nlri_octets IsClear HasItsOctets prefix_kept

-- ---- values

-- A value has as many octets as it had, and its next hops are those of its family.
pub record Formed (s : SessionConfig) (w : Window) (v : Value) : Type 0 where
  pub kept : Kept (IsValueMinimal s w v) (value_anew w v) (rest w)
  pub fits : IsWritable v

hop_fits : (f : AfiSafiType) (w : Window) (h : NextHop) → IsNextHop f w h → IsHopOf f h
hop_fits f w (hop.Ipv4 a) is = is.0
hop_fits f w (hop.Ipv6 a) is = tt
hop_fits f w (hop.Ipv6LinkLocal a b) is = tt

pub all_few : (row : List Nlri) → AllByRecursion HasItsOctets row → AreFew row
all_few [] all = tt
all_few (n ∷ row) all = (all.0.0, all_few row all.1)

reserved_kept : (n : ℕ) → Kept (n ≡ 0) (0 ∷ []) (octets_be 1 n)
reserved_kept n = record {
  long = sym (length_be 1 n);
  same = λ none. sym (one_octet 0 (omega arith)) ∙ ap (octets_be 1) (sym none);
}

reach_parts : (a b c d e : List ℕ) → (a ++ (b ++ (c ++ d))) ++ e ≡ a ++ (b ++ (c ++ (d ++ e)))
reach_parts a b c d e = simp append_assoc

reach_formed : (s : SessionConfig) (w : Window) (r : Reach) → IsSoundWindow w → IsReach s w r
    → Formed s w (Value.reach r)
reach_formed s w r sound is =
    let front = whole_back (number_back 2 back_and number_back 1 back_and counted_back 1 back_and number_back 1
    back_and rest_back)
    w _ sound is.front in
    let hops = hop_back r.family is.next_hops r.next_hop front.1.1.1.0.0 is.next_hop in
    let prefixes = nlri_back (adds_path s.add_path r.family) (afi_of r.family) is.rest r.prefixes front.1.1.1.1.1
    is.prefixes in
    let afi = octets_be 2 (afi_number r.family) in
    let safi = octets_be 1 (safi_number r.family) in
    let all = front.0
    ∙ ap (λ o. afi ++ (safi ++ (part_of 1 o ++ (octets_be 1 is.reserved ++ rest is.rest)))) hops
    ∙ ap (λ o. afi ++ (safi ++ (part_of 1 (hop_octets r.next_hop) ++ (octets_be 1 is.reserved ++ o)))) prefixes.0 in
    record {
      kept = kept_by (reach_parts afi safi (part_of 1 (hop_octets r.next_hop)) (0 ∷ [])
          (prefixes_octets (prefixes_anew r.prefixes)))
          all (λ m. (m.0 is, m.1)) (front_kept afi (front_kept safi (front_kept (part_of 1 (hop_octets r.next_hop))
          (both_kept (reserved_kept is.reserved) (prefixes_kept r.prefixes prefixes.1)))));
      fits = (hop_fits r.family is.next_hops r.next_hop is.next_hop, all_few r.prefixes prefixes.1);
    }

unreach_formed : (s : SessionConfig) (w : Window) (r : Unreach) → IsSoundWindow w → IsUnreach s w r
    → Formed s w (Value.unreach r)
unreach_formed s w r sound is =
    let front = whole_back (number_back 2 back_and number_back 1 back_and rest_back) w _ sound is.front in
    let prefixes = nlri_back (adds_path s.add_path r.family) (afi_of r.family) is.rest r.prefixes front.1.1.1
    is.prefixes in
    let afi = octets_be 2 (afi_number r.family) in
    let safi = octets_be 1 (safi_number r.family) in
    record {
      kept = kept_by (append_assoc afi safi (prefixes_octets (prefixes_anew r.prefixes)))
          (front.0 ∙ ap (λ o. afi ++ (safi ++ o)) prefixes.0) (λ m. m)
          (front_kept afi (front_kept safi (prefixes_kept r.prefixes prefixes.1)));
      fits = all_few r.prefixes prefixes.1;
    }

form_formed : (s : SessionConfig) (w : Window) → IsSoundWindow w → (t : AttributeType) (v : Value) → HasForm s t w v
    → Formed s w v
form_formed s w sound kind.MpReachNlri v is = subst (Formed s w) (sym is.1) (reach_formed s w is.0 sound is.2)
form_formed s w sound kind.MpUnreachNlri v is = subst (Formed s w) (sym is.1) (unreach_formed s w is.0 sound is.2)
form_formed s w sound kind.AtomicAggregate v is = subst (Formed s w) (sym is.0)
    (record { kept = kept_as refl; fits = tt })
form_formed s w sound _ v is = subst (Formed s w) (sym is.1) (record { kept = kept_as refl; fits = tt })

pub value_formed : (s : SessionConfig) (w : Window) → IsSoundWindow w → (number : ℕ) (v : Value) → IsValue s number w v
    → Formed s w v
value_formed s w sound number v (inl typed) = form_formed s w sound typed.0 v typed.2
value_formed s w sound number v (inr other) = subst (Formed s w) (sym other.0)
    (record { kept = kept_as refl; fits = tt })

-- ---- attributes

size_few : (n : ℕ) → n ≤ 255 → attribute_size n ≡ n + 3
size_few n few = ap (λ b. n + (if b then 3 else 4)) (let is : nat_le n 255 ≡ true = grind (arith, nat_tests) in is)

size_many : (n : ℕ) → 256 ≤ n → attribute_size n ≡ n + 4
size_many n many = ap (λ b. n + (if b then 3 else 4)) (let is : nat_le n 255 ≡ false = grind (arith, nat_tests) in is)

flag_few : (n : ℕ) → n ≤ 255 → Path ℕ (if nat_le n 255 then 0 else 16) 0
flag_few n few = grind (arith, nat_tests)

flag_many : (n : ℕ) → 256 ≤ n → Path ℕ (if nat_le n 255 then 0 else 16) 16
flag_many n many = grind (arith, nat_tests)

pub flags_few : (flags n : ℕ) → n ≤ 255 → flags_anew flags n ≡ flags / 32 * 32
flags_few flags n few = ap (λ x. flags / 32 * 32 + x) (flag_few n few) ∙ omega arith

pub flags_many : (flags n : ℕ) → 256 ≤ n → flags_anew flags n ≡ flags / 32 * 32 + 16
flags_many flags n many = ap (λ x. flags / 32 * 32 + x) (flag_many n many)

-- an attribute of n octets
attribute_long_by : (flags n : ℕ) → Dec (n ≤ 255) → 2 + length_width (flags_anew flags n) + n ≡ attribute_size n
attribute_long_by flags n (yes few) =
    let width = ap length_width (flags_few flags n few) ∙ width_short (flags / 32 * 32) (λ is. omega (arith, is)) in
    let size = size_few n few in
    omega (arith, width, size)
attribute_long_by flags n (no apart) =
    let many = lt_of_not-le apart in
    let width = ap length_width (flags_many flags n (omega (arith, many)))
    ∙ width_extended (flags / 32 * 32 + 16) (omega arith) in
    let size = size_many n (omega (arith, many)) in
    omega (arith, width, size)

octets_long : (a : WrittenAttribute) → length (attribute_octets a) ≡ 2 + length_width a.flags + length a.octets
octets_long a =
    let part = part_of (length_width a.flags) a.octets in
    let one = length-append (octets_be 1 a.flags) (octets_be 1 a.kind ++ part) in
    let two = length-append (octets_be 1 a.kind) part in
    let three = length-append (octets_be (length_width a.flags) (length a.octets)) a.octets in
    omega (
      arith,
      one,
      two,
      three,
      length_be 1 a.flags,
      length_be 1 a.kind,
      length_be (length_width a.flags)
          (length a.octets),
    )

pub attribute_long : (a : Attribute) (v : Value) (n : ℕ) → length (value_anew (inside_of a) v) ≡ n
    → length (attribute_octets (attribute_anew a v)) ≡ attribute_size n
attribute_long a v n is =
    let m = length (value_anew (inside_of a) v) in
    octets_long (attribute_anew a v) ∙ attribute_long_by (flags_of a) m (dec_le m 255) ∙ ap attribute_size is

-- an attribute that was read has no less
size_fits : (extended : Bool) (n : ℕ) → n < 256 ^ (if extended then 2 else 1)
    → attribute_size n ≤ 2 + (if extended then 2 else 1) + n
size_fits true n fits = elim (dec_le n 255) [
  | yes few ↦ let size = size_few n few in omega (arith, size)
  | no apart ↦ let many = lt_of_not-le apart in let size = size_many n (omega (arith, many)) in omega (arith, size)
]
size_fits false n fits = let size = size_few n (omega (arith, fits)) in omega (arith, size)

pub read_fits : (a : Attribute) → IsAttributeSound a
    → attribute_size (left (inside_of a)) ≤ length (read_octets a)
read_fits a sound =
    let many = many_rest (inside_of a) sound.0 in
    let was = octets_long (attribute_says a) in
    let fits = subst (λ n. attribute_size n ≤ 2 + length_width (flags_of a) + n) many
    (size_fits (is_extended (flags_of a)) (length (rest (inside_of a))) sound.1) in
    omega (arith, was, fits, many)

-- the flags stay if none but the four upper ones are set, and that of a long length is right
flags_same : (flags n : ℕ) (extended : Bool) → is_extended flags ≡ extended → flags % 16 ≡ 0
    → (IsTrue extended ↔ (255 < n)) → flags_anew flags n ≡ flags
flags_same flags n true is lower exactly =
    let many : 255 < n = exactly.0 refl in
    let flag : flags / 16 % 2 ≡ 1 = grind (arith, nat_tests, is) in
    flags_many flags n (omega (arith, many)) ∙ omega (arith, flag, lower)
flags_same flags n false is lower exactly =
    let flag : ¬ (flags / 16 % 2 ≡ 1) = grind (arith, nat_tests, is) in
    let few : n ≤ 255 = elim (dec_le n 255) [
      | yes few ↦ few
      | no apart ↦ let many = lt_of_not-le apart in let wrong : false
          ≡ true = exactly.1 (omega (arith, many)) in absurd (false≢true wrong)
    ] in
    flags_few flags n few ∙ elim (dec_le (flags / 16 % 2) 0) [
      | yes none ↦ omega (arith, none, lower)
      | no some ↦ absurd (flag (let one = lt_of_not-le some in omega (arith, one)))
    ]

attribute_shrinks : (s : SessionConfig) (a : Attribute) (new : WrittenAttribute) → IsAttributeSound a
    → IsAttributeAnew s a new → Shrinks (IsAttributeMinimal s a) (attribute_octets new) (read_octets a)
attribute_shrinks s a new sound is =
    let v = is.0 in
    let w = inside_of a in
    let kept = (value_formed s w sound.0 (type_of a) v is.1).kept in
    let n = length (rest w) in
    let long = ap (λ new. length (attribute_octets new)) is.2 ∙ attribute_long a v n kept.long in
    let fits = subst (λ n. attribute_size n ≤ length (read_octets a)) (sym (many_rest w sound.0)) (read_fits a sound) in
    record {
      short = omega (arith, long, fits);
      same = λ minimal.
          let flags = flags_same (flags_of a) n (is_extended (flags_of a)) refl minimal.lower
          (subst (λ n. IsTrue (is_extended (flags_of a)) ↔ (255 < n)) (sym (many_rest w sound.0)) minimal.extended) in
          ap attribute_octets (is.2
          ∙ ap (λ o. record { flags = flags_anew (flags_of a) (length o); kind = type_of a; octets = o })
          (kept.same (minimal.value v is.1))
          ∙ ap (λ f. record { flags = f; kind = type_of a; octets = rest w }) flags);
    }

attributes_shrink : (s : SessionConfig) (row : List Attribute) (new : List WrittenAttribute)
    → AllByRecursion IsAttributeSound row → AreAttributesAnew s row new
    → Shrinks (AllByRecursion (IsAttributeMinimal s) row) (attributes_octets new) (flat_map read_octets row)
attributes_shrink s [] new sound are =
    let none = ap attributes_octets are in
    let zero = ap length none in
    record { short = omega (arith, zero); same = λ _. none }
attributes_shrink s (a ∷ row) new sound are =
    let here = attribute_shrinks s a are.0 sound.0 are.2 in
    let there = attributes_shrink s row are.1 sound.1 are.3 in
    let is = ap attributes_octets are.4 ∙ flat_map-cons attribute_octets are.0 are.1 in
    let was = flat_map-cons read_octets a row in
    let long = ap length is ∙ length-append (attribute_octets are.0) (attributes_octets are.1) in
    let all = ap length was ∙ length-append (read_octets a) (flat_map read_octets row) in
    record {
      short = omega (arith, long, all, here.short, there.short);
      same = λ m. is ∙ ap (λ o. o ++ attributes_octets are.1) (here.same m.0)
          ∙ ap (λ o. read_octets a ++ o) (there.same m.1) ∙ sym was;
    }

-- ---- an UPDATE

-- What an UPDATE was read from: the octets of its parts, which are sound.
pub record UpdateBack (w : Window) (u : Update) : Type 0 where
  pub are : rest w ≡ body_octets (flat_map nlri_octets u.withdrawn) (flat_map read_octets u.attributes)
      (flat_map nlri_octets u.announced)
  pub withdrawn : AllByRecursion HasItsOctets u.withdrawn
  pub attributes : AllByRecursion IsAttributeSound u.attributes
  pub announced : AllByRecursion HasItsOctets u.announced

pub update_back : (s : SessionConfig) (w : Window) (u : Update) → IsSoundWindow w → IsUpdate s w u → UpdateBack w u
update_back s w u sound is =
    let parts = whole_back (counted_back 2 back_and counted_back 2 back_and rest_back) w is.parts sound is.are in
    let paths = adds_path s.add_path family.Ipv4Unicast in
    let withdrawn = nlri_back paths addresses.Ipv4 is.parts.0 u.withdrawn parts.1.0.0 is.withdrawn in
    let attributes = attributes_back is.parts.1.0 u.attributes parts.1.1.0.0 is.attributes in
    let announced = nlri_back paths addresses.Ipv4 is.parts.1.1 u.announced parts.1.1.1 is.announced in
    record {
      are = parts.0 ∙ ap (λ x. body_octets x (rest is.parts.1.0) (rest is.parts.1.1)) withdrawn.0
          ∙ ap (λ y. body_octets (flat_map nlri_octets u.withdrawn) y (rest is.parts.1.1)) attributes.0
          ∙ ap (body_octets (flat_map nlri_octets u.withdrawn) (flat_map read_octets u.attributes)) announced.0;
      withdrawn = withdrawn.1;
      attributes = attributes.1;
      announced = announced.1;
    }

pub update_shrinks : (s : SessionConfig) (w : Window) (u : Update) (out : List ℕ) → IsSoundWindow w → IsUpdate s w u
    → IsUpdateRewritten u out → Shrinks (IsUpdateMinimal u) out (message_octets 2 (rest w))
update_shrinks s w u out sound is anew =
    let back = update_back s w u sound is in
    let x = prefixes_kept u.withdrawn back.withdrawn in
    let y = attributes_shrink u.session u.attributes anew.0 back.attributes anew.1 in
    let z = prefixes_kept u.announced back.announced in
    let wx = prefixes_octets (prefixes_anew u.withdrawn) in
    let wy = attributes_octets anew.0 in
    let wz = prefixes_octets (prefixes_anew u.announced) in
    let a = flat_map nlri_octets u.withdrawn in
    let b = flat_map read_octets u.attributes in
    let c = flat_map nlri_octets u.announced in
    let new = body_long wx wy wz in
    let old = ap length back.are ∙ body_long a b c in
    let long = ap length anew.2 ∙ long_after (19 + length (body_octets wx wy wz)) 2 (body_octets wx wy wz) in
    let all = long_after (19 + length (rest w)) 2 (rest w) in
    record {
      short = omega (arith, new, old, long, all, x.long, y.short, z.long);
      same = λ m. anew.2 ∙ ap (message_octets 2) (ap (λ x. body_octets x wy wz) (x.same m.withdrawn)
          ∙ ap (λ y. body_octets a y wz) (y.same m.attributes) ∙ ap (body_octets a b) (z.same m.announced)
          ∙ sym back.are);
    }

-- Prefixes and attributes that were written are read back, and lists of them with the same octets are equal.
use Rattle.std.specs.Prelude.{◌≡◌, Bool, true, false, cond, ℕ, ◌+◌, ◌^◌, ◌<◌, ◌≤◌, Option, Some, None, List, [], ◌++◌}
use Rattle.std.specs.Prelude.{length, map, refl}
use Rattle.std.specs.Prelude.{if◌then◌else◌}
use Rattle.std.proofs.Common.{sym, ap, ◌∙◌, subst, arith, zero-add}
use Rattle.std.specs.List.{AllByRecursion, flat_map}
use Rattle.octseq.specs.Integer.{be, octets_be}
use Rattle.octseq.specs.Part.{part_of}
use Rattle.octseq.specs.Window.{Window, rest, past, whole}
use Rattle.octseq.proofs.WindowsAfter.{rest_after}
use Rattle.octseq_format.specs.Counted.{counted_octets, CountFits, onward_counted, delimited_counted}
use Rattle.octseq_format.specs.Family.{SizedFit, WhenFits, any_onward, onward_sized, onward_when, delimited_sized}
use Rattle.octseq_format.specs.Family.{delimited_when}
use Rattle.octseq_format.specs.Fixed.{onward_fixed, delimited_fixed}
use Rattle.octseq_format.specs.Integers.{are_be}
use Rattle.octseq_format.specs.Keyed.{KeyedFit, keyed_octets, onward_keyed, delimited_keyed}
use Rattle.octseq_format.specs.Laws.{Relation, IsOne, IsMoving, IsDelimited, moving_of}
use Rattle.octseq_format.specs.Pair.{both_say, both_octets, ◌delimited_then◌, ◌onward_then◌, ◌also◌, ◌before◌}
use Rattle.octseq_format.specs.Rest.{IsRest, rest_read_back}
use Rattle.octseq_format.specs.Row.{one_to, to_read_back}
use Rattle.octseq_format.specs.Tagged.{onward_by_switch, delimited_by_switch}
use Rattle.octseq_bgp.specs.OneParts.{one_prefix, one_path_prefix, one_attribute}
use Rattle.octseq_bgp.specs.Parts.{Attribute, IsPrefix, IsPathPrefix, IsAttribute, IsCounted, is_extended}
use Rattle.octseq_bgp.specs.Parts.{octets_of_bits}
use Rattle.octseq_bgp.specs.Prefix.{Nlri}
use Rattle.octseq_bgp.specs.Update.{Update}
use Rattle.octseq_bgp.specs.Written.{WrittenPrefix, WrittenAttribute, WrittenUpdate, prefix_octets, attribute_octets}
use Rattle.octseq_bgp.specs.Written.{PrefixFits, AttributeFits}
use Rattle.octseq_bgp.specs.declared.prefix.PathId.{PathId}

-- ---- prefixes

-- what a prefix without a path id says, and one with it
abbrev pub plain_says : ℕ × Window → WrittenPrefix
plain_says it = record { path_id = None; bits = it.0; octets = rest it.1 }

abbrev pub path_says : ℕ × (ℕ × Window) → WrittenPrefix
path_says it = record { path_id = Some (record { 0 = it.0 }); bits = it.1.0; octets = rest it.1.1 }

abbrev PrefixBitsFit : ℕ → ℕ × List ℕ → Type 0
PrefixBitsFit most = KeyedFit (λ n. n) (λ n. n < 256 ^ 1)
    (WhenFits (λ bits. bits ≤ most) (λ bits. SizedFit 0 (λ o. o) (λ _. Unit {0}) (octets_of_bits bits)))

-- ---- attributes

-- what an attribute says
abbrev pub attribute_says : Attribute → WrittenAttribute
attribute_says it = record { flags = it.0; kind = it.1.0; octets = rest it.1.1 }

abbrev attribute_value_octets : ℕ → List ℕ → List ℕ
attribute_value_octets flags = cond (is_extended flags) (counted_octets 2 0 (λ o. o)) (counted_octets 1 0 (λ o. o))

abbrev ValueFits : ℕ → List ℕ → Type 0
ValueFits flags = cond (is_extended flags) (CountFits 2 0 (λ o. o) (λ _. Unit {0}))
    (CountFits 1 0 (λ o. o) (λ _. Unit {0}))

-- ---- what is read

-- what a prefix says, without its offset
abbrev pub nlri_says : Nlri → WrittenPrefix
nlri_says n = record { path_id = n.path_id; bits = n.bits; octets = rest n.octets }

-- and an UPDATE
abbrev pub update_says : Update → WrittenUpdate
update_says u = record {
  withdrawn = map nlri_says u.withdrawn;
  attributes = map attribute_says u.attributes;
  announced = map nlri_says u.announced;
}

-- ---- lemmas: proved below this line, so what the words mean is read above it

-- what is delimited, with other values for what is said
delimited_as : {A S T : Type 0} {Is : Relation A} {says : A → S} {octets : S → List ℕ} {Fits : S → Type 0}
    → IsDelimited Is says octets Fits → (from : S → T) (written : T → List ℕ) (Suits : T → Type 0)
    → ((t : T) → Suits t → (said : S) × Fits said × (from said ≡ t) × (written t ≡ octets said))
    → IsDelimited Is (λ a. from (says a)) written Suits
delimited_as {Is = Is} delimited from written Suits known = record {
  next = λ w t more fits is.
      let said = known t fits in
      let taken = delimited.next w said.0 more said.1 (is ∙ ap (λ o. o ++ more) said.3) in
      record {
        it = taken.it;
        tells = ap from taken.tells ∙ said.2;
        is = subst (λ n. Is w taken.it (past n w)) (sym (ap length said.3)) taken.is;
      };
}

delimited_bits : (most : ℕ) → IsDelimited (IsPrefix most) (both_say (λ n. n) rest)
    (keyed_octets (λ n. n) (octets_be 1) (λ bits o. o)) (PrefixBitsFit most)
delimited_bits most = delimited_keyed (λ n. n) (λ n. n) (delimited_fixed (are_be 1))
    (delimited_when (λ bits. bits ≤ most) (λ bits. delimited_sized rest_read_back (octets_of_bits bits)))

bits_fit : {most : ℕ} {paths : Bool} (p : WrittenPrefix) → most < 256 → PrefixFits most paths p
    → PrefixBitsFit most (p.bits, p.octets)
bits_fit p few fits = let bits = fits.bits in record {
  first = omega (arith, few, bits);
  second = (record { inside = tt; many = zero-add (length p.octets) ∙ fits.octets }, bits);
}

pub delimited_plain : (most : ℕ) → most < 256
    → IsDelimited (IsPrefix most) plain_says prefix_octets (PrefixFits most false)
unfolding both_say keyed_octets
delimited_plain most few = delimited_as (delimited_bits most)
    (λ said. record { path_id = None; bits = said.0; octets = said.1 })
    prefix_octets (PrefixFits most false) (λ p. plain p.path_id p.bits p.octets) where
      plain : (id : Option PathId) (bits : ℕ) (octets : List ℕ)
          → PrefixFits most false (record { path_id = id; bits = bits; octets = octets })
          → (said : ℕ × List ℕ) × PrefixBitsFit most said
          × (Path WrittenPrefix (record { path_id = None; bits = said.0; octets = said.1 })
          (record { path_id = id; bits = bits; octets = octets }))
          × (prefix_octets (record { path_id = id; bits = bits; octets = octets })
          ≡ keyed_octets (λ n. n) (octets_be 1) (λ bits o. o) said)
      plain None bits octets fits =
          ((bits, octets), bits_fit (record { path_id = None; bits = bits; octets = octets }) few fits, refl, refl)
      plain (Some id) bits octets fits = absurd fits.path_id

pub delimited_path : (most : ℕ) → most < 256
    → IsDelimited (IsPathPrefix most) path_says prefix_octets (PrefixFits most true)
unfolding both_say both_octets keyed_octets
delimited_path most few = delimited_as (delimited_fixed (are_be 4) delimited_then delimited_bits most)
    (λ said. record { path_id = Some (record { 0 = said.0 }); bits = said.1.0; octets = said.1.1 })
    prefix_octets (PrefixFits most true) (λ p. path p.path_id p.bits p.octets) where
      path : (id : Option PathId) (bits : ℕ) (octets : List ℕ)
          → PrefixFits most true (record { path_id = id; bits = bits; octets = octets })
          → (said : ℕ × (ℕ × List ℕ)) × ((λ n. n < 256 ^ 4) also PrefixBitsFit most) said
          × (Path WrittenPrefix (record { path_id = Some (record { 0 = said.0 }); bits = said.1.0; octets = said.1.1 })
          (record { path_id = id; bits = bits; octets = octets }))
          × (prefix_octets (record { path_id = id; bits = bits; octets = octets })
          ≡ (octets_be 4 before keyed_octets (λ n. n) (octets_be 1) (λ bits o. o)) said)
      path None bits octets fits = absurd fits.path_id
      path (Some id) bits octets fits = (
        (id.0, (bits, octets)),
        record {
          first = fits.path_id;
          second = bits_fit
              (record { path_id = Some id; bits = bits; octets = octets }) few fits;
        },
        refl,
        refl,
      )

-- octets after their length of k octets
delimited_octets : (k : ℕ) → IsDelimited (IsCounted k) rest (counted_octets k 0 (λ o. o))
    (CountFits k 0 (λ o. o) (λ _. Unit {0}))
delimited_octets k = delimited_counted rest_read_back

delimited_value : (flags : ℕ) → IsDelimited (cond (is_extended flags) (IsCounted 2) (IsCounted 1)) rest
    (attribute_value_octets flags) (ValueFits flags)
delimited_value flags = delimited_by_switch (is_extended flags) (delimited_octets 2) (delimited_octets 1)

pub counted : (k : ℕ) (octets : List ℕ) → length octets < 256 ^ k
    → CountFits k 0 (λ o. o) (λ _. Unit {0}) octets × (part_of k octets ≡ counted_octets k 0 (λ o. o) octets)
counted k octets fits =
    let same = zero-add (length octets) in (
      record { tag_fits = subst (λ n. n < 256 ^ k) (sym same) fits; inside = record { inside = tt; many = refl } },
      ap (λ n. octets_be k n ++ octets) (sym same),
    )

counted_by : (extended : Bool) (octets : List ℕ) → length octets < 256 ^ (if extended then 2 else 1)
    → (cond extended (CountFits 2 0 (λ o. o) (λ _. Unit {0})) (CountFits 1 0 (λ o. o) (λ _. Unit {0}))) octets
    × (part_of (if extended then 2 else 1) octets
    ≡ (cond extended (counted_octets 2 0 (λ o. o)) (counted_octets 1 0 (λ o. o))) octets)
counted_by true octets fits = counted 2 octets fits
counted_by false octets fits = counted 1 octets fits

pub delimited_attribute : IsDelimited IsAttribute attribute_says attribute_octets AttributeFits
unfolding both_say both_octets keyed_octets
delimited_attribute = delimited_as
    (delimited_keyed (λ n. n) (λ n. n) (delimited_fixed (are_be 1))
    (λ flags. delimited_fixed (are_be 1) delimited_then delimited_value flags))
    (λ said. record { flags = said.0; kind = said.1.0; octets = said.1.1 }) attribute_octets AttributeFits (λ a fits.
    let value = counted_by (is_extended a.flags) a.octets fits.octets in (
      (a.flags, (a.kind, a.octets)),
      record { first = fits.flags; second = record { first = fits.kind; second = value.0 } },
      refl,
      ap (λ o. octets_be 1 a.flags ++ (octets_be 1 a.kind ++ o)) value.1,
    ))

-- ---- lists of them
pub moving_prefix : (most : ℕ) → IsMoving (IsPrefix most)
moving_prefix most = moving_of (onward_keyed (λ n. n) (λ n. n) (onward_fixed 1 be)
    (onward_when (λ bits. bits ≤ most) (λ bits. onward_sized 0 IsRest (octets_of_bits bits)))) (omega arith)

pub moving_path_prefix : (most : ℕ) → IsMoving (IsPathPrefix most)
moving_path_prefix most = moving_of (onward_fixed 4 be onward_then onward_keyed (λ n. n) (λ n. n) (onward_fixed 1 be)
    (onward_when (λ bits. bits ≤ most) (λ bits. onward_sized 0 IsRest (octets_of_bits bits)))) (omega arith)

pub moving_attribute : IsMoving IsAttribute
moving_attribute = moving_of (onward_keyed (λ n. n) (λ n. n) (onward_fixed 1 be) (λ flags. any_onward
    (onward_fixed 1 be onward_then onward_by_switch (is_extended flags) (onward_counted 2 0 IsRest)
    (onward_counted 1 0 IsRest))))
    (omega arith)

-- lists that are read from the same octets are equal
rows_once : {A S : Type 0} {Is : Relation A} {says : A → S} {octets : S → List ℕ} {Fits : S → Type 0}
    → IsDelimited Is says octets Fits → IsOne Is → IsMoving Is → (a b : List S) → AllByRecursion Fits a
    → AllByRecursion Fits b → flat_map octets a ≡ flat_map octets b → a ≡ b
rows_once {Is = Is} {says} {octets} {Fits} delimited one moving a b here there same =
    let all = flat_map octets a in
    let back = to_read_back Is says octets Fits delimited in
    let long : length all ≡ 0 + length all = omega arith in
    let first = back.back (whole all) a here (rest_after [] all) long in
    let second = back.back (whole all) b there (rest_after [] all ∙ same) (long ∙ ap (λ o. 0 + length o) same) in
    sym first.tells ∙ ap (map says)
    ((one_to Is one moving).same (whole all) first.it second.it _ _ first.is second.is).0
    ∙ second.tells

pub prefixes_once : (most : ℕ) → most < 256 → (paths : Bool) (a b : List WrittenPrefix)
    → AllByRecursion (PrefixFits most paths) a → AllByRecursion (PrefixFits most paths) b
    → flat_map prefix_octets a ≡ flat_map prefix_octets b → a ≡ b
prefixes_once most few true = rows_once (delimited_path most few) (one_path_prefix most) (moving_path_prefix most)
prefixes_once most few false = rows_once (delimited_plain most few) (one_prefix most) (moving_prefix most)

pub attributes_once : (a b : List WrittenAttribute) → AllByRecursion AttributeFits a → AllByRecursion AttributeFits b
    → flat_map attribute_octets a ≡ flat_map attribute_octets b → a ≡ b
attributes_once = rows_once delimited_attribute one_attribute moving_attribute

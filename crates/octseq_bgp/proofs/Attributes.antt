-- The attributes that are pushed.
use Rattle.std.proofs.Common.{◌≡◌, ℕ, ◌+◌, ◌*◌, ◌^◌, ◌<◌, ◌≤◌, Option, List, [], ◌++◌}
use Rattle.std.proofs.Common.{length, sym, ap, ◌∙◌, subst, arith, append_assoc}
use Rattle.std.specs.Prelude.{if◌then◌else◌, nat_le}
use Rattle.std.proofs.Math.Decide.{dec_le}
use Rattle.std.proofs.Math.Nat.{lt_of_not-le}
use Rattle.std.proofs.lemmas.Bool.Decides.{nat_tests}
use Rattle.octseq.specs.Integer.{octets_be}
use Rattle.octseq_bgp.specs.AttributeType.{type_flags}
use Rattle.octseq_bgp.specs.Held.{HeldUpdate}
use Rattle.octseq_bgp.specs.PartOctets.{PartOctets}
use Rattle.octseq_bgp.specs.Written.{AttributeFits, WrittenAttribute, attribute_octets, flags_for, head_octets}
use Rattle.octseq_bgp.specs.Written.{length_width}
use Rattle.octseq_bgp.specs.Written.{prefixes_octets, attributes_octets}
use Rattle.octseq_bgp.specs.Writing.{UpToAttributes, more_attributes}
use Rattle.octseq_bgp.specs.declared.attribute.attribute_type.AttributeType.{AttributeType}
use Rattle.octseq_bgp.specs.declared.message.update_builder.part.MpList.{MpList}
use Rattle.octseq_bgp.specs.declared.session.SessionConfig.{SessionConfig}
use Rattle.octseq_bgp.proofs.Octets.{width_extended, width_short}
use Rattle.octseq_bgp.proofs.Pushes.{Wanted, all_more, one_more}
use Rattle.octseq_bgp.proofs.Updates.{held_fits, held_withdrawn, held_attributes, held_announced, held_attributes_up}

-- the head of an attribute, and its octets
pub head_and : (flags kind : ℕ) (octets : List ℕ)
    → head_octets flags kind (length octets) ++ octets
    ≡ attribute_octets (record { flags = flags; kind = kind; octets = octets })
head_and flags kind octets =
    let n = octets_be (length_width flags) (length octets) in
    append_assoc (octets_be 1 flags) (octets_be 1 kind ++ n) octets
    ∙ ap (λ o. octets_be 1 flags ++ o) (append_assoc (octets_be 1 kind) n octets)

-- nothing is announced yet
pub none_announced : {B : Type 0} {s : SessionConfig} {parts : PartOctets B} {open_list : Option MpList} {open_at : ℕ}
    → HeldUpdate UpToAttributes s parts open_list open_at → parts.announced ≡ []
none_announced held = held_announced held ∙ ap prefixes_octets (held_attributes_up held)

-- the UPDATE with another attribute
pub attribute_wanted : {B : Type 0} {s : SessionConfig} {parts : PartOctets B} {open_list : Option MpList} {open_at : ℕ}
    (held : HeldUpdate UpToAttributes s parts open_list open_at) (a : WrittenAttribute) (octets : List ℕ)
    → AttributeFits a → octets ≡ attribute_octets a
    → Wanted UpToAttributes s parts.withdrawn (parts.attributes ++ octets) [] (more_attributes held.0 a)
attribute_wanted held a octets fits is =
    let now = held_fits held in
    record {
      withdrawn_is = held_withdrawn held;
      attributes_is = ap (λ o. o ++ octets) (held_attributes held)
          ∙ ap (λ o. attributes_octets held.0.attributes ++ o) is
          ∙ sym (one_more attribute_octets held.0.attributes a);
      announced_is = sym (ap prefixes_octets (held_attributes_up held));
      withdrawn = now.withdrawn;
      attributes = all_more AttributeFits held.0.attributes now.attributes fits;
      announced = now.announced;
      reaches = held_attributes_up held;
    }

-- the same, with the head that was made for it
pub attribute_after : {B : Type 0} {s : SessionConfig} {parts : PartOctets B} {open_list : Option MpList} {open_at : ℕ}
    (held : HeldUpdate UpToAttributes s parts open_list open_at) (a : WrittenAttribute) {head : List ℕ}
    → head ≡ head_octets a.flags a.kind (length a.octets) → a.flags < 256 → a.kind < 256
    → length a.octets < 256 ^ length_width a.flags
    → Wanted UpToAttributes s parts.withdrawn (parts.attributes ++ (head ++ a.octets)) [] (more_attributes held.0 a)
attribute_after held a {head} made flags kind octets =
    attribute_wanted held a (head ++ a.octets) (record { flags = flags; kind = kind; octets = octets })
    (ap (λ h. h ++ a.octets) made ∙ head_and a.flags a.kind a.octets)

-- ---- the flags of a type

short_flag : (n : ℕ) → n ≤ 255 → Path ℕ (if nat_le n 255 then 0 else 16) 0
short_flag n few = grind (arith, nat_tests)

long_flag : (n : ℕ) → 256 ≤ n → Path ℕ (if nat_le n 255 then 0 else 16) 16
long_flag n many = grind (arith, nat_tests)

pub width_few : (t : AttributeType) (n : ℕ) → n ≤ 255 → length_width (flags_for t n) ≡ 1
width_few t n few =
    ap (λ x. length_width (64 * type_flags t + x)) (short_flag n few)
    ∙ width_short (64 * type_flags t + 0) (λ is. omega (arith, is))

pub width_many : (t : AttributeType) (n : ℕ) → 256 ≤ n → length_width (flags_for t n) ≡ 2
width_many t n many =
    ap (λ x. length_width (64 * type_flags t + x)) (long_flag n many)
    ∙ width_extended (64 * type_flags t + 16) (omega arith)

-- the length of an attribute of a type can say as many octets as two octets can
typed_fits_by : (t : AttributeType) (n : ℕ) → Dec (n ≤ 255) → n < 65536 → n < 256 ^ length_width (flags_for t n)
typed_fits_by t n (yes few) most = subst (λ k. n < 256 ^ k) (sym (width_few t n few)) (omega (arith, few))
typed_fits_by t n (no many) most =
    let least = lt_of_not-le many in
    subst (λ k. n < 256 ^ k) (sym (width_many t n (omega (arith, least)))) (omega (arith, most))

pub typed_fits : (t : AttributeType) (n : ℕ) → n < 65536 → n < 256 ^ length_width (flags_for t n)
typed_fits t n most = typed_fits_by t n (dec_le n 255) most

typed_few_by : (t : AttributeType) (n : ℕ) → Dec (n ≤ 255) → n < 256 ^ length_width (flags_for t n) → n < 65536
typed_few_by t n (yes few) fits = omega (arith, few)
typed_few_by t n (no many) fits =
    let least = lt_of_not-le many in
    let now : n < 256 ^ 2 = subst (λ k. n < 256 ^ k) (width_many t n (omega (arith, least))) fits in
    omega (arith, now)

pub typed_few : (t : AttributeType) (n : ℕ) → n < 256 ^ length_width (flags_for t n) → n < 65536
typed_few t n fits = typed_few_by t n (dec_le n 255) fits

typed_many_by : (t : AttributeType) (n : ℕ) → Dec (n ≤ 255) → 256 ^ length_width (flags_for t n) ≤ n → 65536 ≤ n
typed_many_by t n (yes few) most =
    let now : 256 ^ 1 ≤ n = subst (λ k. 256 ^ k ≤ n) (width_few t n few) most in
    absurd (omega (arith, now, few))
typed_many_by t n (no many) most =
    let least = lt_of_not-le many in
    let now : 256 ^ 2 ≤ n = subst (λ k. 256 ^ k ≤ n) (width_many t n (omega (arith, least))) most in
    omega (arith, now)

pub typed_many : (t : AttributeType) (n : ℕ) → 256 ^ length_width (flags_for t n) ≤ n → 65536 ≤ n
typed_many t n most = typed_many_by t n (dec_le n 255) most

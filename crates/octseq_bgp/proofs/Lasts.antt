-- The last attribute, while it takes prefixes.
use Rattle.std.proofs.Common.{◌≡◌, ℕ, ◌+◌, ◌-◌, ◌^◌, ◌<◌, ◌≤◌, Option, Some, List, [], ◌∷◌, ◌++◌}
use Rattle.std.proofs.Common.{length, min, take, drop, refl, sym, ap, ◌∙◌, subst, arith, length-append}
use Rattle.std.proofs.Math.Decide.{dec_le}
use Rattle.std.proofs.Math.Logic.{∥∥₁_elim, ∥∥₁_map}
use Rattle.std.proofs.Math.Nat.{lt_of_not-le}
use Rattle.std.proofs.Math.Seq.{drop-append_seam, take-append_seam}
use Rattle.std.specs.Coded.{Coded-set, coded_list, coded_ℕ, le_prop}
use Rattle.std.specs.List.{AllByRecursion}
use Rattle.std.proofs.lemmas.List.{length-drop}
use Rattle.octseq_format.specs.Row.{each_once}
use Rattle.octseq.specs.Integer.{octets_be}
use Rattle.octseq.proofs.Written.{length_be}
use Rattle.octseq_bgp.specs.AttributeType.{type_number}
use Rattle.octseq_bgp.specs.Held.{HeldUpdate}
use Rattle.octseq_bgp.specs.PartOctets.{PartOctets}
use Rattle.octseq_bgp.specs.Written.{AttributeFits, WrittenAttribute, attribute_octets, attributes_octets}
use Rattle.octseq_bgp.specs.Written.{flags_for, head_octets, length_width, prefixes_octets, typed_attribute}
use Rattle.octseq_bgp.specs.Written.{update_octets}
use Rattle.octseq_bgp.specs.Writing.{IsLast, IsListOpen, UpToAttributes, grown, list_type, more_in_last}
use Rattle.octseq_bgp.specs.declared.attribute.attribute_type.AttributeType.{AttributeType}
use Rattle.octseq_bgp.specs.declared.message.update_builder.part.MpList.{MpList}
use Rattle.octseq_bgp.specs.declared.session.SessionConfig.{SessionConfig}
use Rattle.octseq_bgp.proofs.Attributes.{head_and, width_few, width_many}
use Rattle.octseq_bgp.proofs.Pushes.{Wanted, all_more, one_more}
use Rattle.octseq_bgp.proofs.Updates.{attribute_once, held_fits, held_withdrawn, held_attributes}
use Rattle.octseq_bgp.proofs.Updates.{held_attributes_up, update_long}

pub head_long : (flags kind n : ℕ) → length (head_octets flags kind n) ≡ 2 + length_width flags
head_long flags kind n =
    let one = length-append (octets_be 1 flags) (octets_be 1 kind ++ octets_be (length_width flags) n) in
    let two = length-append (octets_be 1 kind) (octets_be (length_width flags) n) in
    omega (arith, one, two, length_be 1 flags, length_be 1 kind, length_be (length_width flags) n)

-- the head of an attribute of a type
abbrev pub head_of : AttributeType → ℕ → List ℕ
head_of t n = head_octets (flags_for t n) (type_number t) n

-- has three octets, or four before more than 255 octets
head_size_by : (t : AttributeType) (n : ℕ) → Dec (n ≤ 255) → length (head_of t n) ≡ 3 + min 1 (n - 255)
head_size_by t n (yes few) =
    omega (arith, few, head_long (flags_for t n) (type_number t) n, width_few t n few)
head_size_by t n (no apart) =
    let many = lt_of_not-le apart in
    omega (arith, many, head_long (flags_for t n) (type_number t) n, width_many t n (omega (arith, many)))

pub head_size : (t : AttributeType) (n : ℕ) → length (head_of t n) ≡ 3 + min 1 (n - 255)
head_size t n = head_size_by t n (dec_le n 255)

-- ---- a list that grows at its end

pub grown_last : (t : AttributeType) (more : List ℕ) (front : List WrittenAttribute) (octets : List ℕ)
    → grown t more (front ++ typed_attribute t octets ∷ []) ≡ front ++ typed_attribute t (octets ++ more) ∷ []
grown_last t more [] octets = refl
grown_last t more (one ∷ []) octets = refl
grown_last t more (one ∷ other ∷ front) octets = ap (λ rest. one ∷ rest) (grown_last t more (other ∷ front) octets)

all_front : (front : List WrittenAttribute) (a : WrittenAttribute) → AllByRecursion AttributeFits (front ++ a ∷ [])
    → AllByRecursion AttributeFits front
all_front [] a all = tt
all_front (one ∷ front) a all = (all.0, all_front front a all.1)

-- The octets of the attributes, of which the last is open.
pub record Last (t : AttributeType) (at : ℕ) (octets : List ℕ) : Type 0 where
  pub front : List ℕ
  pub own : List ℕ
  pub is : octets ≡ front ++ (head_of t (length own) ++ own)
  pub offset : at ≡ length front

last_is : (t : AttributeType) (at : ℕ) (attributes : List WrittenAttribute) (last : IsLast t at attributes)
    → attributes_octets attributes
    ≡ attributes_octets last.front ++ (head_of t (length last.octets) ++ last.octets)
last_is t at attributes last =
    ap attributes_octets last.is ∙ one_more attribute_octets last.front (typed_attribute t last.octets)
    ∙ ap (λ o. attributes_octets last.front ++ o)
    (sym (head_and (flags_for t (length last.octets)) (type_number t) last.octets))

-- Its head has so many octets, by how many it has in all.
pub record Heads (t : AttributeType) (at total old : ℕ) : Type 0 where
  pub short : total - at ≤ 258 → old ≡ 3
  pub long : 258 < total - at → old ≡ 4

module _ {t : AttributeType} {at : ℕ} {octets : List ℕ} (last : Last t at octets) where
  pub last_long : length octets ≡ at + length (head_of t (length last.own)) + length last.own
  last_long =
      let one = ap length last.is ∙ length-append last.front (head_of t (length last.own) ++ last.own) in
      let two = length-append (head_of t (length last.own)) last.own in
      omega (arith, one, two, last.offset)

  -- the octets of its head
  pub last_head : (old : ℕ) → Heads t at (length octets) old → old ≡ length (head_of t (length last.own))
  last_head old heads =
      let all = last_long in
      let size = head_size t (length last.own) in
      grind (arith, all, size, heads.short, heads.long)

  -- and what is after them
  pub last_own : (old : ℕ) → old ≡ length (head_of t (length last.own)) → drop old (drop at octets) ≡ last.own
  last_own old is =
      ap (λ k. drop old (drop k octets)) last.offset ∙ ap (λ o. drop old (drop (length last.front) o)) last.is
      ∙ ap (drop old) (drop-append_seam last.front (head_of t (length last.own) ++ last.own))
      ∙ ap (λ k. drop k (head_of t (length last.own) ++ last.own)) is
      ∙ drop-append_seam (head_of t (length last.own)) last.own

  pub last_front : take at octets ≡ last.front
  last_front =
      ap (λ k. take k octets) last.offset ∙ ap (take (length last.front)) last.is
      ∙ take-append_seam last.front (head_of t (length last.own) ++ last.own)

-- ---- the list that a builder has open

-- Its attributes end with it.
pub last_held : {B : Type 0} {s : SessionConfig} {parts : PartOctets B} {open_list : Option MpList} {open_at : ℕ}
    (held : HeldUpdate UpToAttributes s parts open_list open_at) (l : MpList) → open_list ≡ Some l
    → ∥ IsLast (list_type l) open_at held.0.attributes ∥₁
last_held {open_at = open_at} held l is =
    ∥∥₁_map held.1 (λ x. subst (λ o. IsListOpen o open_at held.0.attributes) is x.opened)

module _ {B : Type 0} {s : SessionConfig} {parts : PartOctets B} {open_list : Option MpList} {at : ℕ}
    (held : HeldUpdate UpToAttributes s parts open_list at) (l : MpList) (is : open_list ≡ Some l) where
  abbrev last_in : IsLast (list_type l) at held.0.attributes → Last (list_type l) at parts.attributes
  last_in last = record {
    front = attributes_octets last.front;
    own = last.octets;
    is = held_attributes held ∙ last_is (list_type l) at held.0.attributes last;
    offset = last.offset;
  }

  -- its offset
  pub offset_fits : at + 3 ≤ length parts.attributes
  offset_fits = ∥∥₁_elim (last_held held l is) (λ a b. le_prop a b) (λ last.
      let now = last_in last in
      let all = last_long now in
      omega (arith, all, head_size (list_type l) (length now.own)))

  module _ (old : ℕ) (heads : Heads (list_type l) at (length parts.attributes) old) where
    -- the offset of its octets
    pub head_fits : at + old ≤ length parts.attributes
    head_fits = ∥∥₁_elim (last_held held l is) (λ a b. le_prop a b) (λ last.
        let now = last_in last in
        let all = last_long now in
        let head = last_head now old heads in
        omega (arith, all, head))

    -- a head of more octets isn't shorter
    pub head_grows : (n : ℕ) → length parts.attributes - at - old ≤ n → old ≤ length (head_of (list_type l) n)
    head_grows n more = ∥∥₁_elim (last_held held l is) (λ a b. le_prop a b) (λ last.
        let now = last_in last in
        let all = last_long now in
        let head = last_head now old heads in
        omega (arith, all, head, more, head_size (list_type l) (length now.own), head_size (list_type l) n))

    own_long : (last : IsLast (list_type l) at held.0.attributes) (more : List ℕ) (n : ℕ)
        → n ≡ length parts.attributes - at - old + length more → length (last.octets ++ more) ≡ n
    own_long last more n count =
        let now = last_in last in
        let all = last_long now in
        let head = last_head now old heads in
        let both = length-append last.octets more in
        omega (arith, all, head, both, count)

    grown_is : (last : IsLast (list_type l) at held.0.attributes) (more : List ℕ)
        → grown (list_type l) more held.0.attributes
        ≡ last.front ++ typed_attribute (list_type l) (last.octets ++ more) ∷ []
    grown_is last more = ap (grown (list_type l) more) last.is ∙ grown_last (list_type l) more last.front last.octets

    -- the octets of the attributes when it has grown
    pub grown_octets : (more : List ℕ) (n : ℕ) → n ≡ length parts.attributes - at - old + length more
        → take at parts.attributes ++ (head_of (list_type l) n ++ (drop old (drop at parts.attributes) ++ more))
        ≡ attributes_octets (grown (list_type l) more held.0.attributes)
    grown_octets more n count = ∥∥₁_elim (last_held held l is) (Coded-set (coded_list coded_ℕ) _ _) (λ last.
        let t = list_type l in
        let now = last_in last in
        let head = last_head now old heads in
        let front = attributes_octets last.front in
        let all = last.octets ++ more in
        ap (λ f. f ++ (head_of t n ++ (drop old (drop at parts.attributes) ++ more))) (last_front now)
        ∙ ap (λ o. front ++ (head_of t n ++ (o ++ more))) (last_own now old head)
        ∙ ap (λ k. front ++ (head_of t k ++ all)) (sym (own_long last more n count))
        ∙ ap (λ o. front ++ o) (head_and (flags_for t (length all)) (type_number t) all)
        ∙ sym (one_more attribute_octets last.front (typed_attribute t all))
        ∙ ap attributes_octets (sym (grown_is last more)))

    pub grown_fits : (more : List ℕ) (n : ℕ) → n ≡ length parts.attributes - at - old + length more
        → flags_for (list_type l) n < 256 → type_number (list_type l) < 256
        → n < 256 ^ length_width (flags_for (list_type l) n)
        → AllByRecursion AttributeFits (grown (list_type l) more held.0.attributes)
    grown_fits more n count flags kind fits =
        let t = list_type l in
        ∥∥₁_elim (last_held held l is) (each_once attribute_once (grown t more held.0.attributes)) (λ last.
        let many = sym (own_long last more n count) in
        let before = subst (AllByRecursion AttributeFits) last.is (held_fits held).attributes in
        let one : AttributeFits (typed_attribute t (last.octets ++ more)) = record {
          flags = subst (λ k. flags_for t k < 256) many flags;
          kind = kind;
          octets = subst (λ k. k < 256 ^ length_width (flags_for t k)) many fits;
        } in
        subst (AllByRecursion AttributeFits) (sym (grown_is last more))
        (all_more AttributeFits last.front (all_front last.front (typed_attribute t last.octets) before) one))

    -- the UPDATE with it
    pub grown_wanted : (more : List ℕ) (n : ℕ) (put : List ℕ) → n ≡ length parts.attributes - at - old + length more
        → flags_for (list_type l) n < 256 → type_number (list_type l) < 256
        → n < 256 ^ length_width (flags_for (list_type l) n) → put ≡ head_of (list_type l) n
        → Wanted UpToAttributes s parts.withdrawn
        (take at parts.attributes ++ (put ++ (drop old (drop at parts.attributes) ++ more))) []
        (more_in_last (list_type l) held.0 more)
    grown_wanted more n put count flags kind fits head =
        let now = held_fits held in
        record {
          withdrawn_is = held_withdrawn held;
          attributes_is = ap (λ h. take at parts.attributes
              ++ (h ++ (drop old (drop at parts.attributes) ++ more))) head
              ∙ grown_octets more n count;
          announced_is = sym (ap prefixes_octets (held_attributes_up held));
          withdrawn = now.withdrawn;
          attributes = grown_fits more n count flags kind fits;
          announced = now.announced;
          reaches = held_attributes_up held;
        }

    -- is too long if the list can't be so long
    pub grown_past : (more : List ℕ) (n : ℕ) → n ≡ length parts.attributes - at - old + length more → 65536 ≤ n
        → 65535 < length (update_octets (more_in_last (list_type l) held.0 more))
    grown_past more n count past =
        let all = update_long (more_in_last (list_type l) held.0 more) in
        let octets = ap length (sym (grown_octets more n count)) in
        let one = length-append (take at parts.attributes)
        (head_of (list_type l) n ++ (drop old (drop at parts.attributes) ++ more)) in
        let two = length-append (head_of (list_type l) n) (drop old (drop at parts.attributes) ++ more) in
        let three = length-append (drop old (drop at parts.attributes)) more in
        let first = length-drop at parts.attributes in
        let second = length-drop old (drop at parts.attributes) in
        omega (arith, all, octets, one, two, three, first, second, count, past)

  -- and the list stays open
  pub grown_open : (more : List ℕ) → IsListOpen open_list at held.0.attributes
      → IsListOpen open_list at (grown (list_type l) more held.0.attributes)
  grown_open more opened =
      let last = subst (λ o. IsListOpen o at held.0.attributes) is opened in
      let now : IsListOpen (Some l) at (grown (list_type l) more held.0.attributes) = record {
        front = last.front;
        octets = last.octets ++ more;
        is = ap (grown (list_type l) more) last.is ∙ grown_last (list_type l) more last.front last.octets;
        offset = last.offset;
      } in
      subst (λ o. IsListOpen o at (grown (list_type l) more held.0.attributes)) (sym is) now

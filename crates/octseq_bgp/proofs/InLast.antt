-- Prefixes that fill the last attribute.
use Rattle.std.proofs.Common.{◌≡◌, ℕ, ◌+◌, ◌≤◌, true, false, List, [], ◌∷◌, ◌++◌, length, map, refl, sym, ap, ◌∙◌}
use Rattle.std.proofs.Common.{arith}
use Rattle.std.proofs.Common.{append_assoc, append-nil, length-append}
use Rattle.std.specs.List.{sum_by}
use Rattle.std.specs.Prelude.{if◌then◌else◌}
use Rattle.std.proofs.lemmas.List.{map-append}
use Rattle.std.proofs.lemmas.List.Sums.{sum_by-cons}
use Rattle.octseq.specs.Integer.{octets_be}
use Rattle.octseq.proofs.Written.{length_be}
use Rattle.octseq_bgp.specs.AttributeType.{type_number}
use Rattle.octseq_bgp.specs.Filling.{Given, given, given_long, with_in_last}
use Rattle.octseq_bgp.specs.Parts.{is_extended}
use Rattle.octseq_bgp.specs.Writing.{grown, more_in_last}
use Rattle.octseq_bgp.specs.Written.{WrittenAttribute, WrittenPrefix, WrittenUpdate, attribute_octets}
use Rattle.octseq_bgp.specs.Written.{attributes_octets, flags_for, head_octets, length_width, path_id_octets}
use Rattle.octseq_bgp.specs.Written.{prefix_octets, prefixes_octets, typed_attribute}
use Rattle.octseq_bgp.specs.declared.attribute.attribute_type.AttributeType.{AttributeType}
use Rattle.octseq_bgp.proofs.Attributes.{head_and}
use Rattle.octseq_bgp.proofs.Filling.{Rises, given_octets}
use Rattle.octseq_bgp.proofs.Lasts.{head_long, head_size}
use Rattle.octseq_bgp.proofs.Pushes.{one_more}
use Rattle.octseq_bgp.proofs.Updates.{update_long}

-- ---- one more

-- an attribute that grows twice has grown by both
grown_twice : (t : AttributeType) (first second : List ℕ) (attributes : List WrittenAttribute)
    → grown t second (grown t first attributes) ≡ grown t (first ++ second) attributes
grown_twice t first second [] = refl
grown_twice t first second (one ∷ []) = ap (λ o. typed_attribute t o ∷ []) (append_assoc one.octets first second)
grown_twice t first second (one ∷ other ∷ []) = ap (λ rest. one ∷ rest) (grown_twice t first second (other ∷ []))
grown_twice t first second (one ∷ other ∷ next ∷ rest) =
    ap (λ rest. one ∷ rest) (grown_twice t first second (other ∷ next ∷ rest))

-- an UPDATE with another prefix in its last attribute
abbrev pub one_in_last : AttributeType → WrittenUpdate → WrittenPrefix → WrittenUpdate
one_in_last t u p = more_in_last t u (prefix_octets p)

pub next_in_last : (t : AttributeType) (u : WrittenUpdate) (row : List Given) (p : Given)
    → one_in_last t (with_in_last t u row) (given p) ≡ with_in_last t u (row ++ p ∷ [])
next_in_last t u [] p = ap (more_in_last t u) (sym (append-nil (prefix_octets (given p))))
next_in_last t u (first ∷ row) p =
    ap (λ a. record u { attributes = a })
    (grown_twice t (prefixes_octets (map given (first ∷ row))) (prefix_octets (given p)) u.attributes)
    ∙ ap (more_in_last t u) (sym (one_more prefix_octets (map given (first ∷ row)) (given p))
    ∙ ap prefixes_octets (sym (map-append given (first ∷ row) (p ∷ []))))

-- ---- the octets of an attribute that grows

attribute_long : (a : WrittenAttribute) → length (attribute_octets a) ≡ 2 + length_width a.flags + length a.octets
attribute_long a =
    let head = head_long a.flags a.kind (length a.octets) in
    let both = length-append (head_octets a.flags a.kind (length a.octets)) a.octets in
    omega (arith, head, both, ap length (head_and a.flags a.kind a.octets))

width_most : (flags : ℕ) → length_width flags ≤ 2
width_most flags =
    elim (is_extended flags) as (λ b. (if b then 2 else 1) ≤ 2) [ true ↦ omega arith | false ↦ omega arith ]

-- an attribute of a type has no fewer octets with a value of no fewer
typed_rises : (t : AttributeType) (few many : List ℕ) → length few ≤ length many
    → length (attribute_octets (typed_attribute t few)) ≤ length (attribute_octets (typed_attribute t many))
typed_rises t few many less =
    let first = head_size t (length few) in
    let second = head_size t (length many) in
    let short = head_long (flags_for t (length few)) (type_number t) (length few) in
    let long = head_long (flags_for t (length many)) (type_number t) (length many) in
    let one = attribute_long (typed_attribute t few) in
    let other = attribute_long (typed_attribute t many) in
    omega (arith, first, second, short, long, one, other, less)

grown_rises : (t : AttributeType) (few many : List ℕ) (attributes : List WrittenAttribute) → length few ≤ length many
    → length (attributes_octets (grown t few attributes)) ≤ length (attributes_octets (grown t many attributes))
grown_rises t few many [] less = omega arith
grown_rises t few many (one ∷ []) less =
    let short = length-append one.octets few in
    let long = length-append one.octets many in
    let rises = typed_rises t (one.octets ++ few) (one.octets ++ many) (omega (arith, short, long, less)) in
    let first = length-append (attribute_octets (typed_attribute t (one.octets ++ few))) [] in
    let second = length-append (attribute_octets (typed_attribute t (one.octets ++ many))) [] in
    omega (arith, rises, first, second)
grown_rises t few many (one ∷ other ∷ rest) less =
    let rises = grown_rises t few many (other ∷ rest) less in
    let first = length-append (attribute_octets one) (attributes_octets (grown t few (other ∷ rest))) in
    let second = length-append (attribute_octets one) (attributes_octets (grown t many (other ∷ rest))) in
    omega (arith, rises, first, second)

-- and with an octet more no fewer than before, even if its head gets shorter
grown_longer : (t : AttributeType) (more : List ℕ) (attributes : List WrittenAttribute) → 1 ≤ length more
    → length (attributes_octets attributes) ≤ length (attributes_octets (grown t more attributes))
grown_longer t more [] some = omega arith
grown_longer t more (one ∷ []) some =
    let both = length-append one.octets more in
    let before = attribute_long one in
    let after = attribute_long (typed_attribute t (one.octets ++ more)) in
    let most = width_most one.flags in
    let n = length (one.octets ++ more) in
    let head = head_long (flags_for t n) (type_number t) n in
    let size = head_size t n in
    let first = length-append (attribute_octets one) [] in
    let second = length-append (attribute_octets (typed_attribute t (one.octets ++ more))) [] in
    omega (arith, both, before, after, most, head, size, first, second, some)
grown_longer t more (one ∷ other ∷ rest) some =
    let longer = grown_longer t more (other ∷ rest) some in
    let first = length-append (attribute_octets one) (attributes_octets (other ∷ rest)) in
    let second = length-append (attribute_octets one) (attributes_octets (grown t more (other ∷ rest))) in
    omega (arith, longer, first, second)

-- ---- and of prefixes in it

given_some : (p : Given) (row : List Given) → 1 ≤ sum_by given_long (p ∷ row)
given_some p row =
    let w = given p in
    let one = length-append (path_id_octets w.path_id) (octets_be 1 w.bits ++ w.octets) in
    let two = length-append (octets_be 1 w.bits) w.octets in
    omega (arith, one, two, length_be 1 w.bits, sum_by-cons given_long p row)

pub in_last_rises : (t : AttributeType) (u : WrittenUpdate) → Rises (with_in_last t u) given_long
in_last_rises t u [] [] less = omega arith
in_last_rises t u [] (q ∷ many) less =
    let long = given_octets [] (q ∷ many) in
    let some = given_some q many in
    let longer = grown_longer t (prefixes_octets (map given (q ∷ many))) u.attributes (omega (arith, long, some)) in
    omega (arith, longer, update_long u, update_long (with_in_last t u (q ∷ many)))
in_last_rises t u (p ∷ few) [] less = let some = given_some p few in absurd (omega (arith, less, some))
in_last_rises t u (p ∷ few) (q ∷ many) less =
    let rises = grown_rises t (prefixes_octets (map given (p ∷ few))) (prefixes_octets (map given (q ∷ many)))
    u.attributes (omega (arith, less, given_octets [] (p ∷ few), given_octets [] (q ∷ many))) in
    omega (arith, rises, update_long (with_in_last t u (p ∷ few)), update_long (with_in_last t u (q ∷ many)))

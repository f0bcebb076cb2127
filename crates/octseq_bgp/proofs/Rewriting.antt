-- UPDATEs that are written anew, while they are.
use Rattle.std.proofs.Common.{◌≡◌, ℕ, zero, suc, ◌+◌, ◌*◌, ◌/◌, ◌<◌, ◌≤◌, inl, inr, List, [], ◌∷◌, ◌++◌, length, get_or}
use Rattle.std.proofs.Common.{refl, sym, ap, ◌∙◌, arith, append_assoc, length-append}
use Rattle.std.proofs.lemmas.List.Concat.{flat_map-cons}
use Rattle.std.proofs.lemmas.List.Sums.{sum_by-cons}
use Rattle.std.specs.List.{AllByRecursion, flat_map}
use Rattle.octseq.proofs.Written.{length_be}
use Rattle.octseq.specs.Integer.{octets_be}
use Rattle.octseq.specs.Part.{part_of}
use Rattle.octseq.specs.Window.{Window, left, rest}
use Rattle.octseq_format.specs.Canonical.{AreOctets, IsSoundWindow, many_rest}
use Rattle.octseq_bgp.specs.Composed.{header_long, header_octets, message_octets}
use Rattle.octseq_bgp.specs.Message.{IsMessage, Message}
use Rattle.octseq_bgp.specs.Open.{IsOpen, Open}
use Rattle.octseq_bgp.specs.Parts.{Attribute, flags_of, inside_of, octets_of_bits, type_of}
use Rattle.octseq_bgp.specs.Prefix.{Nlri}
use Rattle.octseq_bgp.specs.PrefixValue.{address_from, prefix_address, bits_after, cleared}
use Rattle.octseq_bgp.specs.Rewritten.{AreAttributesAnew, AreSound, IsAttributeAnew, IsReady, IsUpdateRewritten}
use Rattle.octseq_bgp.specs.Rewritten.{attribute_anew}
use Rattle.octseq_bgp.specs.Rewritten.{attribute_size, attributes_size, flags_anew, prefix_anew, prefixes_anew}
use Rattle.octseq_bgp.specs.Rewritten.{update_size}
use Rattle.octseq_bgp.specs.Rewritten.{value_anew}
use Rattle.octseq_bgp.specs.Update.{IsUpdate, Update}
use Rattle.octseq_bgp.specs.Value.{Value}
use Rattle.octseq_bgp.specs.Written.{WrittenAttribute, attribute_octets, attributes_octets, body_octets, head_octets}
use Rattle.octseq_bgp.specs.Written.{path_id_octets}
use Rattle.octseq_bgp.specs.Written.{prefix_octets, written_prefix}
use Rattle.octseq_bgp.specs.declared.prefix.Prefix.{Prefix}
use Rattle.octseq_bgp.specs.declared.session.SessionConfig.{SessionConfig}
use Rattle.octseq_bgp.proofs.AnewUpdates.{all_few, attribute_long, flags_few, flags_many, prefixes_kept, read_fits}
use Rattle.octseq_bgp.proofs.AnewUpdates.{update_back, value_formed}
use Rattle.octseq_bgp.proofs.Attributes.{head_and}
use Rattle.octseq_bgp.proofs.Kept.{address_at, cleared_twice}
use Rattle.octseq_bgp.proofs.Octets.{head_extended, head_short}
use Rattle.octseq_bgp.proofs.Prefixes.{address_long}
use Rattle.octseq_bgp.proofs.UpdateParts.{body_long}
use Rattle.octseq_bgp.proofs.Updates.{update_long}
use Rattle.octseq_bgp.proofs.WrittenBack.{IsAttributeSound, message_back, nlri_octets, read_octets}

-- ---- prefixes

-- a prefix
pub prefix_long : (n : Nlri)
    → length (prefix_octets (prefix_anew n)) ≡ length (path_id_octets n.path_id) + (1 + octets_of_bits n.bits)
prefix_long n =
    let octets = address_from (octets_of_bits n.bits) 0 n.bits (rest n.octets) in
    let all = length-append (path_id_octets n.path_id) (octets_be 1 n.bits ++ octets) in
    let more = length-append (octets_be 1 n.bits) octets in
    omega (arith, all, more, length_be 1 n.bits, address_long (octets_of_bits n.bits) 0 n.bits (rest n.octets))

-- the octets of a prefix, from its address
pub address_again : (n i bits : ℕ) (octets : List ℕ) → i + n ≤ 16
    → address_from n i bits (prefix_address bits octets) ≡ address_from n i bits octets
address_again zero i bits octets fits = refl
address_again (suc n) i bits octets fits =
    let z = bits_after bits i in
    let here : 0 + i ≡ i = omega arith in
    let at = address_at 16 0 bits octets i (omega (arith, fits))
    ∙ ap (λ j. cleared (bits_after bits j) (get_or octets j 0)) here in
    let first = ap (cleared z) at ∙ sym (cleared_twice z (get_or octets i 0)) in
    ap (λ x. x ∷ address_from n (i + 1) bits (prefix_address bits octets)) first
    ∙ ap (λ xs. cleared z (get_or octets i 0) ∷ xs) (address_again n (i + 1) bits octets (omega (arith, fits)))

-- the prefix of an address that was read is written anew
pub written_again : (n : Nlri) (p : Prefix) → n.bits ≤ 128 → p.len ≡ n.bits → p.address
    ≡ prefix_address n.bits (rest n.octets)
    → prefix_octets (written_prefix p n.path_id) ≡ prefix_octets (prefix_anew n)
written_again n p few len address =
    let say = λ (bits : ℕ) (address : List ℕ). prefix_octets (record {
      path_id = n.path_id;
      bits = bits;
      octets = address_from (octets_of_bits bits) 0 bits address;
    }) in
    ap (λ bits. say bits p.address) len ∙ ap (say n.bits) address
    ∙ ap (λ octets. prefix_octets (record { path_id = n.path_id; bits = n.bits; octets = octets }))
    (address_again (octets_of_bits n.bits) 0 n.bits (rest n.octets) (omega (arith, few)))

-- ---- attributes

-- the sizes of the first of some attributes, and of the others
pub size_first : (row more : List Attribute) (a : Attribute) → row ≡ a ∷ more
    → attributes_size row ≡ attribute_size (left (inside_of a)) + attributes_size more
size_first row more a is =
    ap attributes_size is ∙ sum_by-cons (λ (a : Attribute). attribute_size (left (inside_of a))) a more

pub size_least : (n : ℕ) → n ≤ attribute_size n
size_least n = omega arith

pub head_few : (flags kind n : ℕ) → n ≤ 255 → flags < 256 → kind < 256
    → head_octets (flags_anew flags n) kind n ≡ (flags / 32 * 32) ∷ kind ∷ n ∷ []
head_few flags kind n few small less =
    ap (λ f. head_octets f kind n) (flags_few flags n few)
    ∙ head_short (flags / 32 * 32) kind n (λ is. omega (arith, is)) (omega (arith, small)) less (omega (arith, few))

pub head_many : (flags kind n : ℕ) → 256 ≤ n → flags < 256 → kind < 256
    → head_octets (flags_anew flags n) kind n ≡ (flags / 32 * 32 + 16) ∷ kind ∷ octets_be 2 n
head_many flags kind n many small less =
    ap (λ f. head_octets f kind n) (flags_many flags n many)
    ∙ head_extended (flags / 32 * 32 + 16) kind n (omega arith) (omega (arith, small)) less

module _ (a : Attribute) (v : Value) (n : ℕ) (long : length (value_anew (inside_of a) v) ≡ n) where
  -- its head and its value
  pub attribute_is : head_octets (flags_anew (flags_of a) n) (type_of a) n ++ value_anew (inside_of a) v
      ≡ attribute_octets (attribute_anew a v)
  attribute_is =
      let octets = value_anew (inside_of a) v in
      ap (λ n. head_octets (flags_anew (flags_of a) n) (type_of a) n ++ octets) (sym long)
      ∙ head_and (flags_anew (flags_of a) (length octets)) (type_of a) octets

  -- have as many octets as it has
  pub head_long : length (head_octets (flags_anew (flags_of a) n) (type_of a) n) + n ≡ attribute_size n
  head_long =
      let both = length-append (head_octets (flags_anew (flags_of a) n) (type_of a) n) (value_anew (inside_of a) v) in
      let all = ap length attribute_is ∙ attribute_long a v n long in
      omega (arith, both, all, long)

pub anew_long : (s : SessionConfig) (a : Attribute) (new : WrittenAttribute) → IsSoundWindow (inside_of a)
    → IsAttributeAnew s a new
    → length (attribute_octets new) ≡ attribute_size (left (inside_of a))
anew_long s a new sound is =
    let kept = (value_formed s (inside_of a) sound (type_of a) is.0 is.1).kept in
    ap (λ new. length (attribute_octets new)) is.2
    ∙ attribute_long a is.0 (left (inside_of a)) (kept.long ∙ many_rest (inside_of a) sound)

pub row_long : (s : SessionConfig) (row : List Attribute) (new : List WrittenAttribute) → AreSound row
    → AreAttributesAnew s row new → length (attributes_octets new) ≡ attributes_size row
row_long s [] new sound are = ap (λ new. length (attributes_octets new)) are
row_long s (a ∷ row) new sound are =
    let here = anew_long s a are.0 sound.0 are.2 in
    let there = row_long s row are.1 sound.1 are.3 in
    let is = ap length (ap attributes_octets are.4 ∙ flat_map-cons attribute_octets are.0 are.1) in
    let both = length-append (attribute_octets are.0) (attributes_octets are.1) in
    let all = size_first (a ∷ row) row a refl in
    omega (arith, here, there, is, both, all)

-- attributes have no more octets than they had
row_fits : (row : List Attribute) → AllByRecursion IsAttributeSound row
    → attributes_size row ≤ length (flat_map read_octets row)
row_fits [] sound = omega arith
row_fits (a ∷ row) sound =
    let here = read_fits a sound.0 in
    let there = row_fits row sound.1 in
    let is = ap length (flat_map-cons read_octets a row) in
    let both = length-append (read_octets a) (flat_map read_octets row) in
    let all = size_first (a ∷ row) row a refl in
    omega (arith, here, there, is, both, all)

-- ---- UPDATEs

all_sound : (row : List Attribute) → AllByRecursion IsAttributeSound row → AreSound row
all_sound [] all = tt
all_sound (a ∷ row) all = (all.0.0, all_sound row all.1)

pub update_ready : (s : SessionConfig) (w : Window) (u : Update) → IsUpdate s w u → IsSoundWindow w → left w ≤ 65516
    → IsReady u
update_ready s w u is sound few =
    let back = update_back s w u sound is in
    let x = prefixes_kept u.withdrawn back.withdrawn in
    let y = row_fits u.attributes back.attributes in
    let z = prefixes_kept u.announced back.announced in
    let all = ap length back.are
    ∙ body_long (flat_map nlri_octets u.withdrawn) (flat_map read_octets u.attributes)
    (flat_map nlri_octets u.announced) in
    let many = many_rest w sound in
    record {
      withdrawn = all_few u.withdrawn back.withdrawn;
      attributes = all_sound u.attributes back.attributes;
      announced = all_few u.announced back.announced;
      size = omega (arith, x.long, y, z.long, all, many, few);
    }

-- an UPDATE anew has as many octets
pub update_anew_long : (u : Update) (out : List ℕ) → IsReady u → IsUpdateRewritten u out → length out ≡ update_size u
update_anew_long u out ready is =
    let row = row_long u.session u.attributes is.0 ready.attributes is.1 in
    let all = update_long (record {
      withdrawn = prefixes_anew u.withdrawn;
      attributes = is.0;
      announced = prefixes_anew u.announced;
    }) in
    let same = ap length is.2 in
    omega (arith, row, all, same)

-- how many octets come before its attributes
pub front_long : (total : ℕ) (w : List ℕ) → length (header_octets total 2 ++ part_of 2 w) ≡ 21 + length w
front_long total w =
    let one = length-append (header_octets total 2) (part_of 2 w) in
    let two = length-append (octets_be 2 (length w)) w in
    let header = header_long total 2 in
    let len = length_be 2 (length w) in
    omega (arith, one, two, header, len)

-- its octets, as they are appended
regrouped : (o h w a n : List ℕ) → (o ++ (h ++ w)) ++ (a ++ n) ≡ o ++ (h ++ (w ++ (a ++ n)))
regrouped o h w a n = simp append_assoc

pub others_put : (o n a p : List ℕ) → ((o ++ n) ++ a) ++ p ≡ o ++ ((n ++ a) ++ p)
others_put o n a p = simp append_assoc

pub update_put : (old w a n : List ℕ) (total : ℕ) → total ≡ 23 + length w + length a + length n
    → (old ++ (header_octets total 2 ++ part_of 2 w)) ++ (part_of 2 a ++ n)
    ≡ old ++ message_octets 2 (body_octets w a n)
update_put old w a n total all =
    let long = body_long w a n in
    let same : total ≡ 19 + length (body_octets w a n) = omega (arith, long, all) in
    regrouped old (header_octets total 2) (part_of 2 w) (part_of 2 a) n
    ∙ ap (λ t. old ++ (header_octets t 2 ++ body_octets w a n)) same

-- ---- messages

-- an OPEN has at most 4,077 octets after its header
pub open_in : (s : SessionConfig) (octets : List ℕ) (o : Open) → AreOctets octets → IsMessage s octets (Message.opens o)
    → (w : Window) × IsOpen w o × IsSoundWindow w × (left w ≤ 4077)
open_in s octets o each message =
    let back = message_back each message in
    let many = many_rest message.body back.1 in
    let few : length octets ≤ 4096 = elim message.short as (λ _. length octets ≤ 4096) [
      | inl few ↦ few
      | inr may ↦ absurd (may.1 message.is.0)
    ] in
    let long = back.3 in
    (message.body, message.is.1, back.1, omega (arith, long, few, many))

-- an UPDATE at most 65,516
pub update_in : (s : SessionConfig) (octets : List ℕ) (u : Update) → AreOctets octets
    → IsMessage s octets (Message.update u)
    → (session : SessionConfig) × (w : Window) × IsUpdate session w u × IsSoundWindow w × (left w ≤ 65516)
update_in s octets u each message =
    let back = message_back each message in
    let many = many_rest message.body back.1 in
    let long = back.3 in
    let few = back.2 in
    (s, message.body, message.is.1, back.1, omega (arith, long, few, many))

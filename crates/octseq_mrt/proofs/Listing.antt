-- A list that is written grows by an item.
use Rattle.std.proofs.Common.{◌≡◌, ◌+◌, ◌<◌, ◌≤◌, ◌^◌, ◌⊎◌, ◌↔◌, ℕ, zero, suc, Bool, Option, None, List, [], ◌∷◌}
use Rattle.std.proofs.Common.{◌++◌, length, take, drop, refl, sym, ap, ◌∙◌, subst, arith, length-append, append_assoc}
use Rattle.std.proofs.Math.Seq.{take-append_seam, drop-append_seam}
use Rattle.std.proofs.lemmas.List.{flat_map_more}
use Rattle.std.specs.List.{flat_map}
use Rattle.std.specs.Prelude.{slice_index}
use Rattle.octseq.specs.Integer.{octets_be}
use Rattle.octseq.specs.Limit.{ExceedsLimit}
use Rattle.octseq.proofs.Repeats.{each_snoc}
use Rattle.octseq.proofs.Written.{length_be}
use Rattle.octseq_bgp.specs.Family.{afi_of}
use Rattle.octseq_bgp.specs.Parts.{octets_of_bits}
use Rattle.octseq_bgp.specs.Prefix.{most_bits}
use Rattle.octseq_bgp.specs.PrefixValue.{address_from, bits_after, cleared}
use Rattle.octseq_bgp.specs.Written.{written_prefix}
use Rattle.octseq_bgp.specs.declared.family.AfiSafiType.{AfiSafiType}
use Rattle.octseq_bgp.specs.declared.prefix.Prefix.{Prefix}
use Rattle.octseq_bgp.proofs.Prefixes.{address_long}
use Rattle.octseq_mrt.specs.Building.{FitsPrefix, IsListed, TableWritten, RibWritten, begun_rib, with_peer, with_route}
use Rattle.octseq_mrt.specs.Joined.{with_count}
use Rattle.octseq_mrt.specs.Peer.{Peer}
use Rattle.octseq_mrt.specs.Written.{list_octets, peer_octets, FitsPeer, PeerTable, FitsPeerTable, Route, route_octets}
use Rattle.octseq_mrt.specs.Written.{FitsRoute, FitsRib}

-- the first of three lists, and what follows the second
three_parts : (a b c : List ℕ) (n m : ℕ) → n ≡ length a → m ≡ length b
    → (take n (a ++ (b ++ c)) ≡ a) × (drop (n + m) (a ++ (b ++ c)) ≡ c)
three_parts a b c n m front middle =
    let offset : n + m ≡ length (a ++ b) = omega (arith, front, middle, length-append a b) in
    let first = ap (λ n. take n (a ++ (b ++ c))) front ∙ take-append_seam a (b ++ c) in
    let last = ap (λ n. drop n (a ++ (b ++ c))) offset ∙ ap (drop (length (a ++ b))) (sym (append_assoc a b c)) in
    (first, last ∙ drop-append_seam (a ++ b) c)

module _ {A Fits : Type 0} {item : A → List ℕ} {head : List ℕ} {items : List A} {content more : List ℕ} {at count : ℕ}
    (one : A) (is : IsListed Fits item head items content at count) (same : more ≡ item one) where
  all : List ℕ
  all = flat_map item (items ++ one ∷ [])

  -- one more item, and the count that was there
  appended : content ++ more ≡ head ++ (octets_be 2 (length items) ++ all)
  unfolding all
  appended =
      let c = octets_be 2 (length items) in
      ap (λ o. o ++ more) is.octets ∙ append_assoc head (c ++ flat_map item items) more
      ∙ ap (λ m. head ++ ((c ++ flat_map item items) ++ m)) same ∙ ap (λ o. head ++ o) (flat_map_more item c items one)

  pub listed_long : length content + length more ≡ length (head ++ list_octets item (items ++ one ∷ []))
  unfolding all
  listed_long = omega (arith, ap length appended, length-append {A = ℕ}, length_be)

  -- the count is overwritten
  pub listed_more : {Also : Type 0} {new : List ℕ} {n : ℕ} → Also → (n ≡ count + 1) × (n ≤ 65535)
      → length content + length more ≤ 4294967295 → new ≡ with_count at (count + 1) (content ++ more)
      → IsListed Also item head (items ++ one ∷ []) new at n
  unfolding all
  listed_more {new = new} {n = n} fits next few made =
      let c = octets_be 2 (length items) in
      let parts = three_parts head c all at 2 is.offset (sym (length_be 2 (length items))) in
      let long = length-append items (one ∷ []) in
      let before = is.many in
      let up = next.0 in
      let many : n ≡ length (items ++ one ∷ []) = omega (arith, long, before, up) in
      let put : new ≡ head ++ list_octets item (items ++ one ∷ []) = made ∙ ap (with_count at (count + 1)) appended
      ∙ ap (λ front. front ++ (octets_be 2 (count + 1) ++ drop (at + 2) (head ++ (c ++ all)))) parts.0
      ∙ ap (λ after. head ++ (octets_be 2 (count + 1) ++ after)) parts.1
      ∙ ap (λ n. head ++ (octets_be 2 n ++ all)) (sym up ∙ many) in
      let size = ap length put in
      record { fits = fits; octets = put; offset = is.offset; many = many; few = omega (arith, few, size, listed_long) }

-- the count is among the octets
pub listed_place : {A Fits : Type 0} {item : A → List ℕ} {head : List ℕ} {items : List A} {content : List ℕ}
    {at count : ℕ} → IsListed Fits item head items content at count → at + 2 ≤ length content
listed_place is =
    let offset = is.offset in
    omega (arith, ap length is.octets, offset, length-append {A = ℕ}, length_be)

-- a list without items, after a head of three parts
pub listed_none : {A Fits : Type 0} (item : A → List ℕ) (a b c content : List ℕ) (at : ℕ) → Fits
    → content ≡ a ++ (b ++ (c ++ (0 ∷ 0 ∷ []))) → at ≡ length a + (length b + length c) → length content ≤ 4294967295
    → IsListed Fits item (a ++ (b ++ c)) [] content at 0
unfolding octets_be
listed_none item a b c content at fits octets offset few =
    let long : at ≡ length (a ++ (b ++ c)) = omega (arith, offset, length-append {A = ℕ}) in
    record { fits = fits; octets = octets ∙ simp append_assoc; offset = long; many = refl; few = few }

-- a refusal, by the number of items and of octets
pub refused_by : {S : Type 0} (limit : Option ℕ) {a b m n : ℕ} → a ≡ b → m ≡ n → S ↔ (65535 ≤ a) ⊎ ExceedsLimit limit m
    → S ↔ (65535 ≤ b) ⊎ ExceedsLimit limit n
refused_by {S = S} limit {a = a} {n = n} many long is =
    subst (λ b. S ↔ (65535 ≤ b) ⊎ ExceedsLimit limit n) many
    (subst (λ n. S ↔ (65535 ≤ a) ⊎ ExceedsLimit limit n) long is)

-- ---- tables and RIBs

pub one_more_fits : {A : Type 0} (items : List A) (one : A) {count n : ℕ} → count ≡ length items
    → (n ≡ count + 1) × (n ≤ 65535) → length (items ++ one ∷ []) < 256 ^ 2
one_more_fits items one many next =
    let long = length-append items (one ∷ []) in
    let is = next.0 in
    let few = next.1 in
    omega (arith, long, many, is, few)

-- a table without peers
abbrev pub table_begun : (id : ℕ) (view content : List ℕ) → id < 256 ^ 4 → length view < 65536
    → content ≡ octets_be 4 id ++ (octets_be 2 (length view) ++ (view ++ (0 ∷ 0 ∷ [])))
    → length content ≤ 4294967295 → TableWritten content (6 + length view) 0
table_begun id view content fits few octets most =
    let t : PeerTable = record { collector_bgp_id = id; view_name = view; peers = [] } in
    let all : FitsPeerTable t = record { collector_bgp_id = fits; view_name = few; peers = tt; count = omega arith } in
    let list = listed_none peer_octets (octets_be 4 id) (octets_be 2 (length view)) view content (6 + length view) all
    octets (omega (arith, length_be 4 id, length_be 2 (length view))) most in
    (t, list)

-- a RIB without entries
abbrev pub rib_begun : {paths : Bool} (family : AfiSafiType) (sequence : ℕ) (p : Prefix) (content : List ℕ) {len : ℕ}
    → sequence < 256 ^ 4 → FitsPrefix family p → p.len ≤ 128 → len ≡ octets_of_bits p.len
    → content ≡ octets_be 4 sequence ++ (octets_be 1 p.len ++ ((written_prefix p None).octets ++ (0 ∷ 0 ∷ [])))
    → length content ≤ 4294967295 → RibWritten (most_bits (afi_of family)) paths content (5 + len) 0
rib_begun {paths = paths} family sequence p content {len = len} fits within few many octets most =
    let r = begun_rib sequence p in
    let size = address_long (octets_of_bits p.len) 0 p.len p.address in
    let bits = subst (λ afi. p.len ≤ most_bits afi) within.0 within.1 in
    let all : FitsRib (most_bits (afi_of family)) (FitsRoute paths) r = record {
      sequence = fits;
      bits = omega (arith, few);
      within = bits;
      prefix = size;
      entries = tt;
      count = omega arith;
    } in
    let list = listed_none route_octets (octets_be 4 sequence) (octets_be 1 p.len) r.prefix content (5 + len) all octets
    (omega (arith, length_be 4 sequence, length_be 1 p.len, size, many)) most in
    (r, list)

-- a table with one more peer
abbrev pub table_more : {content new more : List ℕ} {at count n : ℕ} (t : TableWritten content at count) (p : Peer)
    → FitsPeer p → more ≡ peer_octets p → (n ≡ count + 1) × (n ≤ 65535) → length content + length more ≤ 4294967295
    → new ≡ with_count at (count + 1) (content ++ more) → TableWritten new at n
table_more t p fits same next few made =
    let f = t.1.fits in
    let all : FitsPeerTable (with_peer t.0 p) = record {
      collector_bgp_id = f.collector_bgp_id;
      view_name = f.view_name;
      peers = each_snoc FitsPeer t.0.peers p f.peers fits;
      count = one_more_fits t.0.peers p t.1.many next;
    } in
    (with_peer t.0 p, listed_more p t.1 same all next few made)

-- a RIB with one more entry
abbrev pub rib_more : {most : ℕ} {paths : Bool} {content new more : List ℕ} {at count n : ℕ}
    (r : RibWritten most paths content at count) (e : Route) → FitsRoute paths e → more ≡ route_octets e
    → (n ≡ count + 1) × (n ≤ 65535) → length content + length more ≤ 4294967295
    → new ≡ with_count at (count + 1) (content ++ more) → RibWritten most paths new at n
rib_more {most = most} {paths = paths} r e fits same next few made =
    let f = r.1.fits in
    let all : FitsRib most (FitsRoute paths) (with_route r.0 e) = record {
      sequence = f.sequence;
      bits = f.bits;
      within = f.within;
      prefix = f.prefix;
      entries = each_snoc (FitsRoute paths) r.0.entries e f.entries fits;
      count = one_more_fits r.0.entries e r.1.many next;
    } in
    (with_route r.0 e, listed_more e r.1 same all next few made)

-- the first octets of an address depend on no others
pub address_front : (n m i bits : ℕ) (octets : List ℕ) → n ≤ m
    → take n (address_from m i bits octets) ≡ address_from n i bits octets
address_front zero m i bits octets few = refl
address_front (suc n) zero i bits octets few = absurd (omega (arith, few))
address_front (suc n) (suc m) i bits octets few =
    ap (λ rest. cleared (bits_after bits i) (slice_index octets i) ∷ rest)
    (address_front n m (i + 1) bits octets (omega (arith, few)))

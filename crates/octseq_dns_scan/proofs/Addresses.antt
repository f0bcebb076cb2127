-- Words that are addresses.
use Rattle.std.proofs.Common.{◌≡◌, ℕ, zero, suc, ◌+◌, ◌-◌, ◌*◌, ◌/◌, ◌%◌, ◌^◌, ◌<◌, Bool, true}
use Rattle.std.proofs.Common.{false, cond, ◌&&◌, List, [], ◌∷◌}
use Rattle.std.proofs.Common.{◌++◌, length, get_or, take, drop, replicate, codes, refl, sym, ap, ◌∙◌, subst, inr, arith}
use Rattle.std.proofs.Common.{length-drop}
use Rattle.std.proofs.lemmas.List.{take-append-drop}
use Rattle.std.proofs.lemmas.Slice.Eq.{bytes_eq-Decides}
use Rattle.std.proofs.NetLemmas.Arrays.{four_items}
use Rattle.std.proofs.NetLemmas.Texts.{IsDotted-ipv4_text, IsColonHex-ipv6_text}
use Rattle.std.proofs.NetLemmas.Theorems.{IsIpv4Text_unique, IsIpv6Text_unique}
use Rattle.std.specs.Net.Addr.{ipv4_octets, ipv6_segments, segments_of, octets_of}
use Rattle.std.specs.Net.Grammar.{IsColonHex}
use Rattle.std.specs.Net.Text.{ipv4_text, ipv6_text}
use Rattle.octseq.proofs.WrittenBack.{AreOctets}
use Rattle.octseq.specs.OctetsText.{is_compatible, ipv6_address_text}
use Rattle.octseq_dns_scan.specs.Address.{IsIpv4Word, IsIpv6Word}

small : (octets : List ℕ) → AreOctets octets → (k : ℕ) → get_or octets k 0 < 256
small [] are k = omega arith
small (x ∷ octets) are zero = are.0
small (x ∷ octets) are (suc k) = small octets are.1 k

-- ---- IPv4

pub one_ipv4 : (word octets other : List ℕ) → IsIpv4Word word octets → IsIpv4Word word other → octets ≡ other
one_ipv4 word octets other is also =
    ap ipv4_octets (IsIpv4Text_unique word (record { octets = octets }) (record { octets = other }) is also)

pub ipv4_word : (octets : List ℕ) → AreOctets octets → length octets ≡ 4 → IsIpv4Word (ipv4_text octets) octets
ipv4_word octets are four = IsDotted-ipv4_text octets four (small octets are)

-- ---- IPv6

same_octets : (n : ℕ) (xs ys : List ℕ) → AreOctets xs → AreOctets ys → length xs ≡ 2 * n → length ys ≡ 2 * n
    → segments_of xs ≡ segments_of ys → xs ≡ ys
same_octets n [] [] are also many much is = refl
same_octets n [] (y ∷ ys) are also many much is = absurd (omega (arith, many, much))
same_octets n (x ∷ []) ys are also many much is = absurd (omega (arith, many))
same_octets n (x ∷ v ∷ xs) [] are also many much is = absurd (omega (arith, many, much))
same_octets n (x ∷ v ∷ xs) (y ∷ []) are also many much is = absurd (omega (arith, much))
same_octets n (x ∷ v ∷ xs) (y ∷ w ∷ ys) are also many much is =
    let first : x * 256 + v ≡ y * 256 + w = ap (λ s. get_or s 0 0) is in
    let high : x ≡ y = omega (arith, first, are.1.0, also.1.0) in
    let low : v ≡ w = omega (arith, first, are.1.0, also.1.0) in
    let rest = same_octets (n - 1) xs ys are.1.1 also.1.1 (omega (arith, many)) (omega (arith, much))
    (ap (drop 1) is) in
    cc (high, low, rest)

pub one_ipv6 : (word octets other : List ℕ) → AreOctets octets → length octets ≡ 16 → AreOctets other
    → length other ≡ 16 → IsIpv6Word word octets → IsIpv6Word word other → octets ≡ other
one_ipv6 word octets other are many also much is equally =
    same_octets 8 octets other are also many much (ap ipv6_segments
    (IsIpv6Text_unique word (record { segments = segments_of octets }) (record { segments = segments_of other }) is
    equally))

small_segments : (octets : List ℕ) → AreOctets octets → (k : ℕ) → get_or (segments_of octets) k 0 < 2 ^ 16
small_segments [] are k = omega arith
small_segments (x ∷ []) are k = omega arith
small_segments (x ∷ y ∷ octets) are zero = omega (arith, are.0, are.1.0)
small_segments (x ∷ y ∷ octets) are (suc k) = small_segments octets are.1.1 k

many_segments : (n : ℕ) (octets : List ℕ) → length octets ≡ 2 * n → length (segments_of octets) ≡ n
many_segments n [] many = omega (arith, many)
many_segments n (x ∷ []) many = absurd (omega (arith, many))
many_segments n (x ∷ y ∷ octets) many = omega (arith, many_segments (n - 1) octets (omega (arith, many)), many)

-- `::` and an IPv4 address
compatible : (a b c d : ℕ) → AreOctets (a ∷ b ∷ c ∷ d ∷ [])
    → IsColonHex (codes "::" ++ ipv4_text (a ∷ b ∷ c ∷ d ∷ [])) (segments_of (replicate 12 0 ++ (a ∷ b ∷ c ∷ d ∷ [])))
compatible a b c d are =
    let octets = a ∷ b ∷ c ∷ d ∷ [] in
    inr (record {
      head_text = [];
      tail_text = ipv4_text octets;
      head = [];
      tail = segments_of octets;
      spelled = refl;
      head_groups = refl;
      tail_groups = inr (ipv4_text octets, octets, refl, refl, ipv4_word octets are refl, refl);
      room = omega arith;
      value = refl;
    })

dropped : (n : ℕ) (octets : List ℕ) → AreOctets octets → AreOctets (drop n octets)
dropped zero octets are = are
dropped (suc n) [] are = tt
dropped (suc n) (x ∷ octets) are = dropped n octets are.1

left_true : (a b : Bool) → (a && b) ≡ true → a ≡ true
left_true true b is = refl
left_true false b is = is

by_form : (octets : List ℕ) (form : Bool) → AreOctets octets → length octets ≡ 16 → is_compatible octets ≡ form
    → IsColonHex (cond form (codes "::" ++ ipv4_text (drop 12 octets)) (ipv6_text (segments_of octets)))
    (segments_of octets)
by_form octets true are many is =
    let zeros : take 12 octets ≡ replicate 12 0 =
    (bytes_eq-Decides (take 12 octets) (replicate 12 0)).0 (left_true _ _ is) in
    let last : List ℕ = drop 12 octets in
    let four : last ≡ get_or last 0 0 ∷ get_or last 1 0 ∷ get_or last 2 0 ∷ get_or last 3 0 ∷ [] =
    four_items last (omega (arith, length-drop 12 octets, many)) in
    let all : octets ≡ replicate 12 0 ++ last = sym (take-append-drop 12 octets) ∙ ap (λ front. front ++ last) zeros in
    let each : AreOctets (get_or last 0 0 ∷ get_or last 1 0 ∷ get_or last 2 0 ∷ get_or last 3 0 ∷ []) =
    subst AreOctets four (dropped 12 octets are) in
    let shown = compatible (get_or last 0 0) (get_or last 1 0) (get_or last 2 0) (get_or last 3 0) each in
    subst (λ o. IsColonHex (codes "::" ++ ipv4_text last) (segments_of o)) (sym all)
    (subst (λ t. IsColonHex (codes "::" ++ ipv4_text t) (segments_of (replicate 12 0 ++ t))) (sym four) shown)
by_form octets false are many is =
    IsColonHex-ipv6_text (segments_of octets) (many_segments 8 octets many) (small_segments octets are)

pub ipv6_word : (octets : List ℕ) → AreOctets octets → length octets ≡ 16
    → IsIpv6Word (ipv6_address_text octets) octets
ipv6_word octets are many = by_form octets (is_compatible octets) are many refl

pub segments_again : (segments : List ℕ) → segments_of (octets_of segments) ≡ segments
segments_again [] = refl
segments_again (s ∷ segments) =
    let whole : s / 256 * 256 + s % 256 ≡ s = omega arith in
    cc (whole, segments_again segments)

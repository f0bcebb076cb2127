-- What is said of a value determines its octets.
use Rattle.std.proofs.Common.{◌≡◌, ◌≤◌, ℕ, zero, suc, List, [], ◌∷◌, length, Option, None, Some, refl, sym, ap}
use Rattle.std.proofs.Common.{◌∙◌, subst, arith}
use Rattle.std.specs.List.{concat, flat_map}
use Rattle.std.specs.List.Sorted.{IsPermutation, IsStrictlyIncreasing}
use Rattle.std.proofs.lemmas.List.{map-id}
use Rattle.octseq.specs.Integer.{octets_be}
use Rattle.octseq.specs.Part.{part_of}
use Rattle.octseq_dns_scan.specs.Address.{IsIpv4Word, IsIpv6Word}
use Rattle.octseq_dns_scan.proofs.Addresses.{one_ipv4, one_ipv6}
use Rattle.octseq_dns_scan.proofs.Base64Texts.{base64_same}
use Rattle.octseq_dns_scan.proofs.Mades.{tail}
use Rattle.octseq_dns_scan.proofs.Spellings.{string_once}
use Rattle.octseq_dns_text.specs.IdsText.{IsIdsText, listed_ids}
use Rattle.octseq_dns_text.specs.KeyText.{IsKeyText}
use Rattle.octseq_dns_text.specs.ParamText.{AreAddressTexts, IsAddressText, IsMandatoryText, IsParamValueText, Says}
use Rattle.octseq_dns_text.specs.Split.{items_of}
use Rattle.octseq_dns_text.proofs.Fronts.{zip_once}
use Rattle.octseq_dns_text.proofs.IdsTexts.{after_stuck, id_once, listed_after}
use Rattle.octseq_dns_text.proofs.KeyTexts.{key_once}
use Rattle.octseq_dns_text.proofs.Sortings.{sorted_once}

-- a string is said in one way
pub says_once : (text : Option (List ℕ)) (a b : List ℕ) → Says text a → Says text b → a ≡ b
says_once None a b one two = one ∙ sym two
says_once (Some text) a b one two = string_once a b text one two

-- numbers have one order in which they ascend
pub numbers_once : (said xs ys : List ℕ) → IsPermutation said xs → IsPermutation said ys → IsStrictlyIncreasing xs
    → IsStrictlyIncreasing ys → xs ≡ ys
numbers_once said xs ys one two ascend other =
    sorted_once (λ x. x) said xs ys one two (subst IsStrictlyIncreasing (sym (map-id xs)) ascend)
    (subst IsStrictlyIncreasing (sym (map-id ys)) other)

mandatory_once : (said a b : List ℕ) → IsMandatoryText said a → IsMandatoryText said b → a ≡ b
mandatory_once said a b one two =
    let keys = zip_once IsKeyText key_once (items_of said) one.keys two.keys one.each two.each in
    let moved = subst (λ l. IsPermutation l two.sorted) (sym keys) two.moved in
    let sorted = numbers_once one.keys one.sorted two.sorted one.moved moved one.are.ascending two.are.ascending in
    one.are.spelled ∙ ap (flat_map (octets_be 2)) sorted ∙ sym two.are.spelled

after_once : (xs ys : List (List ℕ)) → listed_after xs ≡ listed_after ys → xs ≡ ys
after_once [] [] same = refl
after_once [] (y ∷ ys) same = absurd (cc)
after_once (x ∷ xs) [] same = absurd (cc)
after_once (x ∷ xs) (y ∷ ys) same =
    let both = id_once x y (listed_after xs) (listed_after ys) (after_stuck xs) (after_stuck ys) (tail same) in
    ap (λ i. i ∷ xs) both.0 ∙ ap (λ l. y ∷ l) (after_once xs ys both.1)

listed_once : (xs ys : List (List ℕ)) → 1 ≤ length xs → 1 ≤ length ys → listed_ids xs ≡ listed_ids ys → xs ≡ ys
listed_once [] ys some others same = absurd (omega (arith, some))
listed_once (x ∷ xs) [] some others same = absurd (omega (arith, others))
listed_once (x ∷ xs) (y ∷ ys) some others same =
    let both = id_once x y (listed_after xs) (listed_after ys) (after_stuck xs) (after_stuck ys) same in
    ap (λ i. i ∷ xs) both.0 ∙ ap (λ l. y ∷ l) (after_once xs ys both.1)

ids_once : (said a b : List ℕ) → IsIdsText said a → IsIdsText said b → a ≡ b
ids_once said a b one two =
    let ids = listed_once one.ids two.ids one.are.some two.are.some (sym one.spelled ∙ two.spelled) in
    one.are.spelled ∙ ap (flat_map (part_of 1)) ids ∙ sym two.are.spelled

pub ipv4_once : (text a b : List ℕ) → IsAddressText IsIpv4Word 4 text a → IsAddressText IsIpv4Word 4 text b → a ≡ b
ipv4_once text a b one two = one_ipv4 text a b one.is two.is

pub ipv6_once : (text a b : List ℕ) → IsAddressText IsIpv6Word 16 text a → IsAddressText IsIpv6Word 16 text b → a ≡ b
ipv6_once text a b one two = one_ipv6 text a b one.each one.many two.each two.many one.is two.is

addresses_once : (Is : List ℕ → List ℕ → Type 0) (size : ℕ)
    → ((text a b : List ℕ) → IsAddressText Is size text a → IsAddressText Is size text b → a ≡ b)
    → (said a b : List ℕ) → AreAddressTexts Is size said a → AreAddressTexts Is size said b → a ≡ b
addresses_once Is size once said a b one two =
    let addresses = zip_once (IsAddressText Is size) once (items_of said) one.addresses two.addresses one.each
    two.each in
    one.octets ∙ ap concat addresses ∙ sym two.octets

-- what is said of a value determines it
pub value_once : (key : ℕ) (said a b : List ℕ) → IsParamValueText key said a → IsParamValueText key said b → a ≡ b
value_once zero said a b one two = mandatory_once said a b (one.mandatory refl) (two.mandatory refl)
value_once (suc zero) said a b one two = ids_once said a b (one.alpn refl) (two.alpn refl)
value_once (suc (suc zero)) said a b one two = (one.no_default_alpn refl).1 ∙ sym (two.no_default_alpn refl).1
value_once (suc (suc (suc zero))) said a b one two = (one.port refl).octets ∙ sym (two.port refl).octets
value_once (suc (suc (suc (suc zero)))) said a b one two =
    addresses_once IsIpv4Word 4 ipv4_once said a b (one.ipv4hint refl) (two.ipv4hint refl)
value_once (suc (suc (suc (suc (suc zero))))) said a b one two =
    base64_same a b (one.ech refl).each (two.ech refl).each (sym (one.ech refl).text ∙ (two.ech refl).text)
value_once (suc (suc (suc (suc (suc (suc zero)))))) said a b one two =
    addresses_once IsIpv6Word 16 ipv6_once said a b (one.ipv6hint refl) (two.ipv6hint refl)
value_once (suc (suc (suc (suc (suc (suc (suc key))))))) said a b one two =
    one.other (omega arith) ∙ sym (two.other (omega arith))

pub value_at : (key other : ℕ) (said more value : List ℕ) → key ≡ other → said ≡ more → IsParamValueText key said value
    → IsParamValueText other more value
value_at key other said more value keys same is =
    subst (λ s. IsParamValueText other s value) same (subst (λ k. IsParamValueText k said value) keys is)

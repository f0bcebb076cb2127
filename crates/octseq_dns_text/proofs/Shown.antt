-- What is displayed of parameters is read back.
use Rattle.std.proofs.Common.{◌≡◌, ◌≢◌, inl, inr, ℕ, zero, suc, ◌*◌, ◌/◌, ◌^◌, ◌<◌, ◌≤◌, Bool, true, false}
use Rattle.std.proofs.Common.{List, [], ◌∷◌, ◌++◌, length, map, take, drop, Option, None, Some, refl, sym, ap, ◌∙◌}
use Rattle.std.proofs.Common.{subst}
use Rattle.std.proofs.Common.{arith, length-append}
use Rattle.std.specs.Fmt.{decimal}
use Rattle.std.specs.List.{All, AllByRecursion, AllZip, concat, flat_map}
use Rattle.std.specs.Net.Text.{ipv4_text}
use Rattle.std.specs.Prelude.{codes, if◌then◌else◌, unwrap_or, slice_index}
use Rattle.std.proofs.lemmas.Bool.{ne_eqb}
use Rattle.std.proofs.lemmas.Fmt.{decimal_digit, first_decimal}
use Rattle.std.proofs.lemmas.List.{append-nil, length-drop, length-take-le, nil_from_length, take-append-drop}
use Rattle.std.proofs.lemmas.List.Elements.{All-from_recursion, recursion_from_All}
use Rattle.std.proofs.lemmas.List.Sorted.{IsPermutation-refl}
use Rattle.octseq.proofs.WrittenBack.{AreOctets, as_be, small_be}
use Rattle.octseq.specs.Integer.{be, octets_be}
use Rattle.octseq.specs.OctetsText.{ipv6_address_text, string_octet_text, string_text}
use Rattle.octseq.specs.Part.{part_of}
use Rattle.octseq_dns_data.specs.Mnemonic.{name_in}
use Rattle.octseq_dns_data.specs.Pieces.{pieces, split_octets}
use Rattle.octseq_dns_data.specs.SvcParams.{IsParam, IsSvcParams, IsValueOf}
use Rattle.octseq_dns_data.specs.SvcParams.{Param, ids_of, keys_of, param_octets, params_of}
use Rattle.octseq_dns_data.specs.SvcParamsText.{key_names, key_text, listed_octet, param_text, value_text}
use Rattle.octseq_dns_data.specs.SvcParamsText.{is_listed_quoted, with_commas}
use Rattle.octseq_dns_data.proofs.Pieces.{each_after, is_octets, pieces_of_all}
use Rattle.octseq_dns_scan.specs.Address.{IsIpv4Word, IsIpv6Word}
use Rattle.octseq_dns_scan.specs.Base64.{base64_text}
use Rattle.octseq_dns_scan.specs.Spelled.{SpellsString}
use Rattle.octseq_dns_scan.specs.Word.{IsWord}
use Rattle.octseq_dns_scan.proofs.Addresses.{ipv4_word, ipv6_word}
use Rattle.octseq_dns_scan.proofs.Numerals.{shown_digits, shown_value}
use Rattle.octseq_dns_scan.proofs.StringWords.{string_spelled}
use Rattle.octseq_dns_text.specs.IdsText.{listed_id, listed_ids}
use Rattle.octseq_dns_text.specs.KeyText.{IsKeyText}
use Rattle.octseq_dns_text.specs.ParamText.{AreAddressTexts, IsAddressText, IsParamText, IsParamValueText, Says}
use Rattle.octseq_dns_text.specs.ParamsText.{IsParamsText}
use Rattle.octseq_dns_text.specs.Split.{items_of, split_after, octets_before}
use Rattle.octseq_dns_text.proofs.PlainNames.{NamedPlain, among_plain, among_some, name_among, names_from, names_some}
use Rattle.octseq_dns_text.proofs.PlainNames.{plain_from}
use Rattle.octseq_dns_text.proofs.Plain.{ArePlain, AreBare, IsBare, IsPlain, all_append, all_weaker, bare_spells}
use Rattle.octseq_dns_text.proofs.NameWords.{string_octets_feedless}
use Rattle.octseq_dns_text.proofs.SpacedWords.{IsFeedless, feedless_both}
use Rattle.octseq_dns_text.proofs.Plain.{base64_bare}
use Rattle.octseq_dns_text.proofs.Plain.{colon_hex_plain}
use Rattle.octseq_dns_text.proofs.Plain.{decimal_plain, dotted_plain, items_listed, plain_after, plain_bare}
use Rattle.octseq_dns_text.proofs.Plain.{plain_before, plain_none, plain_text_word, plain_whole, valued_word}
use Rattle.octseq_dns_text.proofs.Plain.{with_commas_bare}

-- ---- keys

no_zero : (key : ℕ) → key < 65536 → 2 ≤ length (decimal key) → slice_index (decimal key) 0 ≢ 48
no_zero zero bits long same = let one = ap length (decimal_digit 0 (omega arith)) in absurd (omega (arith, long, one))
no_zero (suc key) bits long same =
    let first = first_decimal (suc key) (omega arith) (omega (arith, bits)) in absurd (omega (arith, first, same))

shown_key : (key : ℕ) → key < 65536 → (found : Option (List ℕ)) → name_in key_names key ≡ found
    → NamedPlain key_names
    → IsKeyText (unwrap_or found (codes "key" ++ decimal key)) key
    × ArePlain (unwrap_or found (codes "key" ++ decimal key))
shown_key key bits (Some name) is plain =
    let among = name_among key_names key name is in
    (inl among, among_plain key_names key name plain among)
shown_key key bits None is plain =
    let numeral = shown_digits key (omega (arith, bits)) in
    let value = shown_value key (omega (arith, bits)) in
    let word = plain_from (codes "key") refl in (
      inr (record {
        digits = decimal key;
        parts = refl;
        numeral = numeral;
        least = no_zero key bits;
        value = value;
        bits = bits;
      }),
      all_append IsPlain (codes "key") (decimal key) word (decimal_plain key (omega (arith, bits))),
    )

-- the text of a key names it
pub key_shown : (key : ℕ) → key < 65536 → IsKeyText (key_text key) key × ArePlain (key_text key)
unfolding key_text
key_shown key bits = shown_key key bits (name_in key_names key) refl (names_from key_names refl)

-- ---- lists

pub zip_map : {B : Type 0} (R : List ℕ → B → Type 0) (text : B → List ℕ) (xs : List B)
    → AllByRecursion (λ x. R (text x) x) xs → AllZip R (map text xs) xs
zip_map R text [] each = tt
zip_map R text (x ∷ xs) each = (each.0, zip_map R text xs each.1)

pub all_both : {X : Type 0} (P Q : X → Type 0) → ((x : X) → P x → Q x) → (xs : List X) → AllByRecursion P xs
    → AllByRecursion Q xs
all_both P Q more [] each = tt
all_both P Q more (x ∷ xs) each = (more x each.0, all_both P Q more xs each.1)

abbrev IsListed : ℕ → Type 0
IsListed key = (1 ≤ key) × (key < 2 ^ 16)

keys_items : (keys : List ℕ) → 1 ≤ length keys → AllByRecursion IsListed keys
    → AllZip IsKeyText (items_of (with_commas key_text keys)) keys × AreBare (with_commas key_text keys)
keys_items [] some each = absurd (omega (arith, some))
keys_items (key ∷ keys) some each =
    let plain = all_both IsListed (λ k. ArePlain (key_text k)) (λ k is. (key_shown k is.1).1) (key ∷ keys) each in
    let named = all_both IsListed (λ k. IsKeyText (key_text k) k) (λ k is. (key_shown k is.1).0) (key ∷ keys) each in (
      subst (λ l. AllZip IsKeyText l (key ∷ keys)) (sym (items_listed key_text key keys plain))
          (zip_map IsKeyText key_text (key ∷ keys) named),
      with_commas_bare key_text (key ∷ keys) plain,
    )

-- ---- addresses

octets_front : (xs ys : List ℕ) → AreOctets (xs ++ ys) → AreOctets xs
octets_front [] ys each = tt
octets_front (x ∷ xs) ys each = (each.0, octets_front xs ys each.1)

abbrev Chunks : ℕ → List (List ℕ) → Type 0
Chunks size xs = AllByRecursion (λ x. length x ≡ size) xs

abbrev itself : List ℕ → List ℕ
itself octets = octets

chunks : (size n : ℕ) (value : List ℕ) → length value ≡ n * size
    → (xs : List (List ℕ)) × (value ≡ flat_map itself xs) × Chunks size xs × (length xs ≡ n)
chunks size zero value long = ([], nil_from_length value (omega (arith, long)), tt, refl)
chunks size (suc n) value long =
    let enough : size ≤ length value = omega (arith, long) in
    let after = length-drop size value in
    let rest = chunks size n (drop size value) (omega (arith, after, long)) in (
      take size value ∷ rest.0,
      sym (take-append-drop size value) ∙ ap (λ l. take size value ++ l) rest.1,
      (length-take-le size value enough, rest.2),
      ap suc rest.3,
    )

concat_is : (xs : List (List ℕ)) → flat_map itself xs ≡ concat xs
concat_is [] = refl
concat_is (x ∷ xs) = ap (λ l. x ++ l) (concat_is xs)

octets_each : (xs : List (List ℕ)) → AreOctets (flat_map itself xs) → AllByRecursion AreOctets xs
octets_each [] each = tt
octets_each (x ∷ xs) each =
    (octets_front x (flat_map itself xs) each, octets_each xs (each_after x (flat_map itself xs) each))

record Texts (Is : List ℕ → List ℕ → Type 0) (size : ℕ) (text : List ℕ → List ℕ) : Type 0 where
  some : 1 ≤ size
  is : (octets : List ℕ) → AreOctets octets → length octets ≡ size → Is (text octets) octets
  plain : (octets : List ℕ) → AreOctets octets → length octets ≡ size → ArePlain (text octets)

both_each : (size : ℕ) (xs : List (List ℕ)) → Chunks size xs → AllByRecursion AreOctets xs
    → AllByRecursion (λ x. AreOctets x × (length x ≡ size)) xs
both_each size [] sizes each = tt
both_each size (x ∷ xs) sizes each = ((each.0, sizes.0), both_each size xs sizes.1 each.1)

listed_addresses : (Is : List ℕ → List ℕ → Type 0) (size : ℕ) (text : List ℕ → List ℕ) → Texts Is size text
    → (xs : List (List ℕ)) → 1 ≤ length xs → AllByRecursion (λ x. AreOctets x × (length x ≡ size)) xs
    → AreAddressTexts Is size (with_commas text xs) (concat xs) × AreBare (with_commas text xs)
listed_addresses Is size text texts [] some each = absurd (omega (arith, some))
listed_addresses Is size text texts (x ∷ xs) some each =
    let P = λ (o : List ℕ). AreOctets o × (length o ≡ size) in
    let plain = all_both P (λ o. ArePlain (text o)) (λ o is. texts.plain o is.0 is.1) (x ∷ xs) each in
    let named = all_both P (λ o. IsAddressText Is size (text o) o)
    (λ o is. record { is = texts.is o is.0 is.1; many = is.1; each = is.0 }) (x ∷ xs) each in (
      record {
        addresses = x ∷ xs;
        each = subst (λ l. AllZip (IsAddressText Is size) l (x ∷ xs)) (sym (items_listed text x xs plain))
            (zip_map (IsAddressText Is size) text (x ∷ xs) named);
        octets = refl;
      },
      with_commas_bare text (x ∷ xs) plain,
    )

addresses_shown : (Is : List ℕ → List ℕ → Type 0) (size : ℕ) (text : List ℕ → List ℕ) → Texts Is size text → (n : ℕ)
    (value : List ℕ) → length value ≡ n * size → 1 ≤ n → AreOctets value
    → AreAddressTexts Is size (with_commas text (pieces (split_octets size) value)) value
    × AreBare (with_commas text (pieces (split_octets size) value))
addresses_shown Is size text texts n value long some each =
    let found = chunks size n value long in
    let xs = found.0 in
    let octets = octets_each xs (subst AreOctets found.1 each) in
    let split = ap (pieces (split_octets size)) found.1 ∙ pieces_of_all (is_octets size texts.some) xs found.2 in
    let all = listed_addresses Is size text texts xs (omega (arith, some, found.3))
    (both_each size xs found.2 octets) in
    let same = found.1 ∙ concat_is xs in
    subst (λ l. AreAddressTexts Is size (with_commas text l) value × AreBare (with_commas text l)) (sym split)
    (subst (λ v. AreAddressTexts Is size (with_commas text xs) v × AreBare (with_commas text xs)) (sym same) all)

ipv4_texts : Texts IsIpv4Word 4 ipv4_text
ipv4_texts = record {
  some = omega arith;
  is = ipv4_word;
  plain = λ octets each many. dotted_plain (ipv4_text octets) octets (ipv4_word octets each many);
}

ipv6_texts : Texts IsIpv6Word 16 ipv6_address_text
ipv6_texts = record {
  some = omega arith;
  is = ipv6_word;
  plain = λ octets each many. colon_hex_plain (ipv6_address_text octets) _ (ipv6_word octets each many);
}

-- ---- ids

listed_octets : (octet : ℕ) (quoted : Bool) → octet < 256 → AreOctets (if quoted then 92 ∷ octet ∷ [] else octet ∷ [])
listed_octets octet true small = (omega arith, (small, tt))
listed_octets octet false small = (small, tt)

octets_join : (xs ys : List ℕ) → AreOctets xs → AreOctets ys → AreOctets (xs ++ ys)
octets_join = all_append (λ octet. octet < 256)

id_octets : (id : List ℕ) → AreOctets id → AreOctets (listed_id id)
id_octets [] each = tt
id_octets (octet ∷ id) each =
    octets_join (listed_octet octet) (listed_id id) (listed_octets octet (is_listed_quoted octet) each.0)
    (id_octets id each.1)

after_octets : (ids : List (List ℕ)) → AllByRecursion AreOctets ids → AreOctets (flat_map (λ id. 44 ∷ listed_id id) ids)
after_octets [] each = tt
after_octets (id ∷ ids) each =
    (omega arith, octets_join (listed_id id) _ (id_octets id each.0) (after_octets ids each.1))

ids_octets : (ids : List (List ℕ)) → AllByRecursion AreOctets ids → AreOctets (listed_ids ids)
ids_octets [] each = tt
ids_octets (id ∷ ids) each = octets_join (listed_id id) _ (id_octets id each.0) (after_octets ids each.1)

parts_octets : (ids : List (List ℕ)) → AreOctets (flat_map (part_of 1) ids) → AllByRecursion AreOctets ids
parts_octets [] each = tt
parts_octets (id ∷ ids) each =
    let first = octets_front (part_of 1 id) (flat_map (part_of 1) ids) each in
    (each_after (octets_be 1 (length id)) id first, parts_octets ids (each_after (part_of 1 id) _ each))

-- ---- values

abbrev pub Shows : ℕ → List ℕ → Type 0
Shows key value =
    (said : List ℕ) × SpellsString said (34 ∷ value_text key value ++ 34 ∷ []) × IsParamValueText key said value
    × IsFeedless (value_text key value)

bare_feedless : (text : List ℕ) → AreBare text → IsFeedless text
bare_feedless text bare = all_weaker IsBare (λ octet. ¬ (octet ≡ 10)) (λ octet is. is.2) text bare

bare_string : (said : List ℕ) → AreBare said → SpellsString said (34 ∷ said ++ 34 ∷ [])
bare_string said bare = SpellsString.quoted said refl (bare_spells said bare)

octets_string : (said : List ℕ) → AreOctets said → SpellsString said (string_text said)
octets_string said each = string_spelled said (All-from_recursion (λ octet. octet < 256) said each)

other_text : (key : ℕ) (value : List ℕ) → 7 ≤ key → value_text key value ≡ flat_map string_octet_text value
unfolding value_text
other_text key value high =
    let a = ne_eqb key 0 (λ e. omega (arith, e, high)) in
    let b = ne_eqb key 1 (λ e. omega (arith, e, high)) in
    let d = ne_eqb key 3 (λ e. omega (arith, e, high)) in
    let f = ne_eqb key 4 (λ e. omega (arith, e, high)) in
    let h = ne_eqb key 5 (λ e. omega (arith, e, high)) in
    let i = ne_eqb key 6 (λ e. omega (arith, e, high)) in
    rw (a, b, d, f, h, i) refl

pub value_shown : (key : ℕ) (value : List ℕ) → IsValueOf key value → AreOctets value → 1 ≤ length value
    → Shows key value
unfolding value_text
value_shown zero value is each some =
    let keys = keys_of value in
    let are = is.mandatory refl in
    let items = keys_items keys are.some (recursion_from_All IsListed keys are.each) in (
      with_commas key_text keys,
      bare_string (with_commas key_text keys) items.1,
      record {
        mandatory = λ e. record {
          keys = keys;
          each = items.0;
          sorted = keys;
          moved = IsPermutation-refl keys;
          are = are;
        };
        alpn = λ e. absurd (omega (arith, e));
        no_default_alpn = λ e. absurd (omega (arith, e));
        port = λ e. absurd (omega (arith, e));
        ipv4hint = λ e. absurd (omega (arith, e));
        ech = λ e. absurd (omega (arith, e));
        ipv6hint = λ e. absurd (omega (arith, e));
        other = λ e. absurd (omega (arith, e));
      },
      bare_feedless (with_commas key_text keys) items.1,
    )
value_shown (suc zero) value is each some =
    let ids = ids_of value in
    let are = is.alpn refl in
    let octets = ids_octets ids (parts_octets ids (subst AreOctets are.spelled each)) in (
      listed_ids ids,
      octets_string (listed_ids ids) octets,
      record {
        mandatory = λ e. absurd (omega (arith, e));
        alpn = λ e. record { ids = ids; spelled = refl; are = are };
        no_default_alpn = λ e. absurd (omega (arith, e));
        port = λ e. absurd (omega (arith, e));
        ipv4hint = λ e. absurd (omega (arith, e));
        ech = λ e. absurd (omega (arith, e));
        ipv6hint = λ e. absurd (omega (arith, e));
        other = λ e. absurd (omega (arith, e));
      },
      string_octets_feedless (listed_ids ids),
    )
value_shown (suc (suc zero)) value is each some =
    let none = ap length (is.no_default_alpn refl) in absurd (omega (arith, none, some))
value_shown (suc (suc (suc zero))) value is each some =
    let many = is.port refl in
    let small : be value < 65536 = subst (λ n. be value < 256 ^ n) many (small_be value each) in
    let numeral = shown_digits (be value) (omega (arith, small)) in
    let shown = shown_value (be value) (omega (arith, small)) in (
      decimal (be value),
      bare_string (decimal (be value))
          (plain_bare (decimal (be value)) (decimal_plain (be value) (omega (arith, small)))),
      record {
        mandatory = λ e. absurd (omega (arith, e));
        alpn = λ e. absurd (omega (arith, e));
        no_default_alpn = λ e. absurd (omega (arith, e));
        port = λ e. record {
          numeral = numeral;
          bits = omega (arith, shown, small);
          octets = sym (ap (octets_be 2) shown ∙ as_be 2 value many each);
        };
        ipv4hint = λ e. absurd (omega (arith, e));
        ech = λ e. absurd (omega (arith, e));
        ipv6hint = λ e. absurd (omega (arith, e));
        other = λ e. absurd (omega (arith, e));
      },
      bare_feedless (decimal (be value))
          (plain_bare (decimal (be value)) (decimal_plain (be value) (omega (arith, small)))),
    )
value_shown (suc (suc (suc (suc zero)))) value is each some =
    let are = is.ipv4hint refl in
    let all = addresses_shown IsIpv4Word 4 ipv4_text ipv4_texts (length value / 4) value (omega (arith, are))
    (omega (arith, are)) each in (
      with_commas ipv4_text (pieces (split_octets 4) value),
      bare_string (with_commas ipv4_text (pieces (split_octets 4) value)) all.1,
      record {
        mandatory = λ e. absurd (omega (arith, e));
        alpn = λ e. absurd (omega (arith, e));
        no_default_alpn = λ e. absurd (omega (arith, e));
        port = λ e. absurd (omega (arith, e));
        ipv4hint = λ e. all.0;
        ech = λ e. absurd (omega (arith, e));
        ipv6hint = λ e. absurd (omega (arith, e));
        other = λ e. absurd (omega (arith, e));
      },
      bare_feedless (with_commas ipv4_text (pieces (split_octets 4) value)) all.1,
    )
value_shown (suc (suc (suc (suc (suc zero))))) value is each some = (
  base64_text value,
  bare_string (base64_text value) (base64_bare value each),
  record {
    mandatory = λ e. absurd (omega (arith, e));
    alpn = λ e. absurd (omega (arith, e));
    no_default_alpn = λ e. absurd (omega (arith, e));
    port = λ e. absurd (omega (arith, e));
    ipv4hint = λ e. absurd (omega (arith, e));
    ech = λ e. record { text = refl; each = each };
    ipv6hint = λ e. absurd (omega (arith, e));
    other = λ e. absurd (omega (arith, e));
  },
  bare_feedless (base64_text value) (base64_bare value each),
)
value_shown (suc (suc (suc (suc (suc (suc zero)))))) value is each some =
    let are = is.ipv6hint refl in
    let all = addresses_shown IsIpv6Word 16 ipv6_address_text ipv6_texts (length value / 16) value (omega (arith, are))
    (omega (arith, are)) each in (
      with_commas ipv6_address_text (pieces (split_octets 16) value),
      bare_string (with_commas ipv6_address_text (pieces (split_octets 16) value)) all.1,
      record {
        mandatory = λ e. absurd (omega (arith, e));
        alpn = λ e. absurd (omega (arith, e));
        no_default_alpn = λ e. absurd (omega (arith, e));
        port = λ e. absurd (omega (arith, e));
        ipv4hint = λ e. absurd (omega (arith, e));
        ech = λ e. absurd (omega (arith, e));
        ipv6hint = λ e. all.0;
        other = λ e. absurd (omega (arith, e));
      },
      bare_feedless (with_commas ipv6_address_text (pieces (split_octets 16) value)) all.1,
    )
value_shown (suc (suc (suc (suc (suc (suc (suc key))))))) value is each some =
    let key = suc (suc (suc (suc (suc (suc (suc key)))))) in (
      value,
      subst (λ t. SpellsString value (34 ∷ t ++ 34 ∷ [])) (sym (other_text key value (omega arith)))
          (octets_string value each),
      record {
        mandatory = λ e. absurd (omega (arith, e));
        alpn = λ e. absurd (omega (arith, e));
        no_default_alpn = λ e. absurd (omega (arith, e));
        port = λ e. absurd (omega (arith, e));
        ipv4hint = λ e. absurd (omega (arith, e));
        ech = λ e. absurd (omega (arith, e));
        ipv6hint = λ e. absurd (omega (arith, e));
        other = λ e. refl;
      },
      subst IsFeedless (sym (other_text key value (omega arith))) (string_octets_feedless value),
    )

-- a value of no octets isn't shown
none_shown : (key : ℕ) → IsValueOf key [] → IsParamValueText key [] []
none_shown key is = record {
  mandatory = λ e. let some = (is.mandatory e).some in absurd (omega (arith, some));
  alpn = λ e. let some = (is.alpn e).some in absurd (omega (arith, some));
  no_default_alpn = λ e. (refl, refl);
  port = λ e. let many = is.port e in absurd (omega (arith, many));
  ipv4hint = λ e. let some = (is.ipv4hint e).0 in absurd (omega (arith, some));
  ech = λ e. record { text = refl; each = tt };
  ipv6hint = λ e. let some = (is.ipv6hint e).0 in absurd (omega (arith, some));
  other = λ e. refl;
}

-- ---- parameters

param_read : (key : ℕ) (value : List ℕ) → IsParam (key, value) → AreOctets value
    → IsParamText (param_text (key, value)) (key, value)
param_read key [] is each =
    let shown = key_shown key is.key in
    let text = key_text key in
    let same = append-nil text in record {
      said = [];
      key = subst (λ n. IsKeyText n key) (sym (ap (octets_before 61) same ∙ plain_whole text shown.1)) shown.0;
      says = subst (λ t. Says t []) (sym (ap (split_after 61) same ∙ plain_none text shown.1)) refl;
      value = none_shown key is.value;
      few = is.few;
    }
param_read key (octet ∷ value) is each =
    let shown = key_shown key is.key in
    let text = key_text key in
    let all = value_shown key (octet ∷ value) is.value each (omega arith) in
    let more = 34 ∷ value_text key (octet ∷ value) ++ 34 ∷ [] in record {
      said = all.0;
      key = subst (λ n. IsKeyText n key) (sym (plain_before text more shown.1)) shown.0;
      says = subst (λ t. Says t all.0) (sym (plain_after text more shown.1)) all.1;
      value = all.2;
      few = is.few;
    }

params_read : (params : List Param) → AllByRecursion IsParam params → AreOctets (flat_map param_octets params)
    → AllZip IsParamText (map param_text params) params
params_read [] are each = tt
params_read (param ∷ params) are each =
    let first = octets_front (param_octets param) (flat_map param_octets params) each in
    let part = each_after (octets_be 2 param.0) (part_of 2 param.1) first in
    let value = each_after (octets_be 2 (length param.1)) param.1 part in
    (param_read param.0 param.1 are.0 value, params_read params are.1 (each_after (param_octets param) _ each))

-- what is displayed of parameters is read as these parameters
pub params_shown : (octets : List ℕ) → AreOctets octets → IsSvcParams octets
    → IsParamsText (map param_text (params_of octets)) octets
params_shown octets each are = record {
  said = params_of octets;
  each = params_read (params_of octets) (recursion_from_All IsParam (params_of octets) are.each)
      (subst AreOctets are.spelled each);
  sorted = params_of octets;
  moved = IsPermutation-refl (params_of octets);
  are = are;
}

-- ---- what is displayed of a parameter is a word

key_some : (name : List ℕ) (key : ℕ) → IsKeyText name key → 1 ≤ length name
key_some name key (inl named) = among_some key key_names name (names_some key_names refl) named
key_some name key (inr numbered) =
    let all = ap length numbered.parts in omega (arith, all, length-append (codes "key") numbered.digits)

pub param_word : (key : ℕ) (value : List ℕ) → IsParam (key, value) → AreOctets value → IsWord (param_text (key, value))
param_word key [] is each =
    let shown = key_shown key is.key in
    subst IsWord (sym (append-nil (key_text key)))
    (plain_text_word (key_text key) (key_some (key_text key) key shown.0) shown.1)
param_word key (octet ∷ value) is each =
    let shown = key_shown key is.key in
    let all = value_shown key (octet ∷ value) is.value each (omega arith) in
    valued_word (key_text key) all.0 (34 ∷ value_text key (octet ∷ value) ++ 34 ∷ [])
    (key_some (key_text key) key shown.0) shown.1 all.1

params_words : (params : List Param) → AllByRecursion IsParam params → AreOctets (flat_map param_octets params)
    → AllByRecursion IsWord (map param_text params)
params_words [] are each = tt
params_words (param ∷ params) are each =
    let first = octets_front (param_octets param) (flat_map param_octets params) each in
    let part = each_after (octets_be 2 param.0) (part_of 2 param.1) first in
    let value = each_after (octets_be 2 (length param.1)) param.1 part in
    (param_word param.0 param.1 are.0 value, params_words params are.1 (each_after (param_octets param) _ each))

pub shown_words : (octets : List ℕ) → AreOctets octets → IsSvcParams octets
    → All IsWord (map param_text (params_of octets))
shown_words octets each are =
    All-from_recursion IsWord (map param_text (params_of octets))
    (params_words (params_of octets) (recursion_from_All IsParam (params_of octets) are.each)
    (subst AreOctets are.spelled each))

-- ---- what is displayed of parameters has no line feed

param_feedless : (key : ℕ) (value : List ℕ) → IsParam (key, value) → AreOctets value
    → IsFeedless (param_text (key, value))
param_feedless key [] is each =
    feedless_both (key_text key) [] (bare_feedless (key_text key) (plain_bare (key_text key) (key_shown key is.key).1))
    tt
param_feedless key (octet ∷ value) is each =
    let all = value_shown key (octet ∷ value) is.value each (omega arith) in
    let text = value_text key (octet ∷ value) in
    feedless_both (key_text key) (61 ∷ 34 ∷ text ++ 34 ∷ [])
    (bare_feedless (key_text key) (plain_bare (key_text key) (key_shown key is.key).1)) (
      λ same. omega (arith, same),
      (λ same. omega (arith, same), feedless_both text (34 ∷ []) all.3 (λ same. omega (arith, same), tt)),
    )

params_feedless : (params : List Param) → AllByRecursion IsParam params → AreOctets (flat_map param_octets params)
    → AllByRecursion IsFeedless (map param_text params)
params_feedless [] are each = tt
params_feedless (param ∷ params) are each =
    let first = octets_front (param_octets param) (flat_map param_octets params) each in
    let part = each_after (octets_be 2 param.0) (part_of 2 param.1) first in
    let value = each_after (octets_be 2 (length param.1)) param.1 part in
    (param_feedless param.0 param.1 are.0 value, params_feedless params are.1 (each_after (param_octets param) _ each))

pub shown_feedless : (octets : List ℕ) → AreOctets octets → IsSvcParams octets
    → AllByRecursion IsFeedless (map param_text (params_of octets))
shown_feedless octets each are =
    params_feedless (params_of octets) (recursion_from_All IsParam (params_of octets) are.each)
    (subst AreOctets are.spelled each)

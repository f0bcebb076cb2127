-- The text of data is read back.
use Rattle.std.proofs.Common.{true, ◌≡◌, ℕ, ◌≤◌, ◌<◌, ◌^◌, inl, inr, Some, None, List, [], ◌∷◌, ◌++◌, length, map}
use Rattle.std.proofs.Common.{refl, sym, ap, ◌∙◌, subst, append-nil, arith, decimal, codes}
use Rattle.std.specs.List.{AllByRecursion, flat_map}
use Rattle.std.specs.Net.Text.{ipv4_text}
use Rattle.octseq.proofs.WrittenBack.{AreOctets, small_be}
use Rattle.octseq.specs.Integer.{be}
use Rattle.octseq.specs.OctetsText.{hex_text, ipv6_address_text, octets_after, opaque_text, string_text}
use Rattle.octseq.specs.Part.{part_of}
use Rattle.octseq.specs.Window.{Window, left, nested, next, past, rest}
use Rattle.octseq_dns_data.specs.Data.{HasOctetCount, IsTypedData, SaysData}
use Rattle.octseq_dns_data.specs.DataText.{strings_text}
use Rattle.octseq_dns_data.specs.Local.{form}
use Rattle.octseq_dns_data.specs.RdataText.{rdata_text}
use Rattle.octseq_dns_data.specs.Rtype as types
use Rattle.octseq_dns_data.specs.Strings.{HasString, HasStrings}
use Rattle.octseq_dns_data.specs.Form.{Form, ◌followed_by◌, alone, domain_name, number}
use Rattle.octseq_dns_data.specs.Typed.{ParsedRdata, layout_of, mx_parts, naptr_parts, quoted, soa_parts, srv_parts}
use Rattle.octseq_dns_scan.proofs.Addresses.{ipv4_word, ipv6_word}
use Rattle.octseq_dns_scan.proofs.Numerals.{shown_digits, shown_value}
use Rattle.octseq_dns_scan.proofs.Taken.{escaped_word}
use Rattle.octseq_dns_scan.specs.Hex.{IsHexText}
use Rattle.octseq_dns_scan.specs.Word.{AreWords}
use Rattle.octseq_format.specs.Canonical.{IsSoundWindow, each_next, many_next, many_rest, sound_nested, sound_past}
use Rattle.octseq_format.specs.Row.{Row}
use Rattle.octseq_dns_text.proofs.NameWords.{string_first}
use Rattle.octseq_dns_text.proofs.OrdinaryTexts.{decimal_first, hex_first, ipv4_first, ipv6_first}
use Rattle.octseq_dns_text.proofs.ShownFields.{hex_shown, string_shown}
use Rattle.octseq_dns_text.proofs.ShownForms.{IsShownForm}
use Rattle.octseq_dns_text.proofs.ShownForms.{Shown, ◌shown_before◌, a_name, a_string, all_octets_of}
use Rattle.octseq_dns_text.proofs.ShownForms.{each_rest, four_octets, shown_alone, two_octets}
use Rattle.octseq_dns_text.proofs.PlainWires.{one_be}
use Rattle.octseq_dns_text.proofs.ShownTypes.{data_shown, local_shown}
use Rattle.octseq_dns_text.proofs.SpacedWords.{IsFeedless, IsFirst, IsLineWord, spaced, spaced_feedless, spaced_map}
use Rattle.octseq_dns_text.proofs.SpacedWords.{spaced_words}
use Rattle.octseq_dns_text.specs.DataShown.{ShowsData, rdata_octets}
use Rattle.octseq_dns_text.specs.DataText.{opaque_word}
use Rattle.octseq_dns_text.specs.Fields.{IsFieldText}
use Rattle.octseq_dns_text.specs.Layouts.{IsLayoutText, layout_value}
use Rattle.octseq_dns_text.specs.Runs.{AreRuns}
use Rattle.octseq_dns_text.specs.Tails.{AreStrings}
use Rattle.octseq_dns_text.specs.Words.{IsStringWord}
use Rattle.octseq_dns_data.specs.declared.layout.Field.{Field}
use Rattle.octseq_dns_data.specs.declared.layout.Field.TheVariants as field
use Rattle.octseq_dns_data.specs.declared.layout.Tail.{Tail}
use Rattle.octseq_dns_data.specs.declared.layout.Tail.TheVariants as tail

-- ---- addresses

field_alone : (it : Field) (word octets : List ℕ) → IsFirst word → IsFieldText None it word octets
    → Shown (IsLayoutText None (it ∷ []) tail.Nothing) word octets
field_alone it word octets first is = record {
  word = word;
  more = [];
  spelled = sym (append-nil word);
  first = first;
  each = tt;
  is = (word, [], octets, [], refl, is, (refl, refl), sym (append-nil octets));
}

address : (n : ℕ) (w : Window) (octets : List ℕ) (v : Window) → IsSoundWindow w → HasOctetCount n w octets v
    → AreOctets octets × (length octets ≡ n)
address n w octets v sound (few, is, moved) =
    (subst AreOctets (sym is) (each_next n w sound), ap length is ∙ many_next n w sound few)

ipv4_shown : (w : Window) (octets : List ℕ) (v : Window) → IsSoundWindow w → HasOctetCount 4 w octets v
    → Shown (IsLayoutText None (field.Ipv4 ∷ []) tail.Nothing) (ipv4_text octets) octets
ipv4_shown w octets v sound is =
    let has = address 4 w octets v sound is in
    field_alone field.Ipv4 (ipv4_text octets) octets (ipv4_first octets has.0 has.1) (ipv4_word octets has.0 has.1)

ipv6_shown : (w : Window) (octets : List ℕ) (v : Window) → IsSoundWindow w → HasOctetCount 16 w octets v
    → Shown (IsLayoutText None (field.Ipv6 ∷ []) tail.Nothing) (ipv6_address_text octets) octets
ipv6_shown w octets v sound is =
    let has = address 16 w octets v sound is in
    field_alone field.Ipv6 (ipv6_address_text octets) octets (ipv6_first octets has.0 has.1)
    (has.0, has.1, ipv6_word octets has.0 has.1)

-- ---- strings

pub string_at : (w v : Window) (string : List ℕ) → IsSoundWindow w → HasString w string v
    → AreOctets string × (length string ≤ 255) × IsSoundWindow v
string_at w v string sound (has, is, moved) =
    let on = sound_past 1 w sound has.0 in
    let n = be (next 1 w) in
    let inside = sound_nested n (past 1 w) on has.1 in
    let value = small_be (next 1 w) (each_next 1 w sound) in
    let small : n < 256 = subst (λ size. n < 256 ^ size) (many_next 1 w sound has.0) value in
    let long = ap length is ∙ many_rest (nested n (past 1 w)) inside in (
      subst AreOctets (sym is) (each_rest (nested n (past 1 w)) inside),
      omega (arith, long, small),
      subst IsSoundWindow (sym moved) (sound_past n (past 1 w) on has.1),
    )

-- a string after its length
part_is : (string : List ℕ) → length string ≤ 255 → part_of 1 string ≡ length string ∷ string
part_is string few = ap (λ front. front ++ string) (one_be (length string) (omega (arith, few)))

strings_read : (w v : Window) (strings : List (List ℕ)) → IsSoundWindow w → Row HasString w strings v
    → AreStrings (map string_text strings) (flat_map (part_of 1) strings)
strings_read w v [] sound row = refl
strings_read w v (string ∷ strings) sound (u, is, row) =
    let at = string_at w u string sound is in
    let word = string_shown string (all_octets_of string at.0) at.1 in (
      part_of 1 string,
      flat_map (part_of 1) strings,
      subst (IsStringWord (string_text string)) (sym (part_is string at.1)) word,
      strings_read u v strings at.2 row,
      refl,
    )

strings_words : (w v : Window) (strings : List (List ℕ)) → IsSoundWindow w → Row HasString w strings v
    → AllByRecursion IsLineWord (map string_text strings)
strings_words w v [] sound row = tt
strings_words w v (string ∷ strings) sound (u, is, row) =
    let at = string_at w u string sound is in
    let first = string_first string (all_octets_of string at.0) in
    ((first.0, first.1), strings_words u v strings at.2 row)

strings_shown : (w v : Window) (strings : List (List ℕ)) → IsSoundWindow w → HasStrings w strings v
    → Shown (IsLayoutText None [] tail.Strings) (strings_text strings) (flat_map (part_of 1) strings)
strings_shown w v [] sound (some, row) = absurd (omega (arith, some))
strings_shown w v (string ∷ strings) sound (some, (u, is, row)) =
    let at = string_at w u string sound is in record {
      word = string_text string;
      more = map string_text strings;
      spelled = ap (λ t. string_text string ++ t) (spaced_map string_text strings);
      first = string_first string (all_octets_of string at.0);
      each = strings_words u v strings at.2 row;
      is = (omega arith, strings_read w v (string ∷ strings) sound (u, is, row));
    }

-- ---- data that is read in the message

-- forms whose names may have pointers
abbrev IsAlone : List Field → Form → Type 0
IsAlone fields form = IsShownForm true fields tail.Nothing form

pub mx_shown : IsAlone (field.U16 ∷ field.Name ∷ [])
    (number 2 followed_by alone domain_name)
mx_shown = two_octets shown_before shown_alone a_name

pub soa_shown : IsAlone
    (field.Name ∷ field.Name ∷ field.U32 ∷ field.U32 ∷ field.U32 ∷ field.U32 ∷ field.U32 ∷ [])
    (domain_name followed_by domain_name followed_by number 4 followed_by number 4 followed_by number 4
    followed_by number 4 followed_by alone (number 4))
soa_shown = a_name shown_before a_name shown_before four_octets shown_before four_octets
    shown_before four_octets shown_before four_octets shown_before shown_alone four_octets

pub srv_shown : IsAlone (field.U16 ∷ field.U16 ∷ field.U16 ∷ field.Name ∷ [])
    (number 2 followed_by number 2 followed_by number 2 followed_by alone domain_name)
srv_shown = two_octets shown_before two_octets shown_before two_octets shown_before shown_alone a_name

pub naptr_shown : IsAlone
    (field.U16 ∷ field.U16 ∷ field.String ∷ field.String ∷ field.String ∷ field.Name ∷ [])
    (number 2 followed_by number 2 followed_by quoted followed_by quoted followed_by quoted
    followed_by alone domain_name)
naptr_shown = two_octets shown_before two_octets shown_before a_string shown_before a_string
    shown_before a_string shown_before shown_alone a_name

in_layout : {fields : List Field} {end : Tail} (rtype class number : ℕ) (text octets : List ℕ) → rtype ≡ number
    → layout_of number class ≡ Some (layout_value fields end) → Shown (IsLayoutText None fields end) text octets
    → ShowsData rtype class text octets
in_layout {fields = fields} {end = end} rtype class number text octets same known shown =
    data_shown rtype class fields end text octets (ap (λ n. layout_of n class) same ∙ known) shown

in_one : {fields : List Field} {end : Tail} (rtype class number : ℕ) (text octets : List ℕ) → rtype ≡ number
    → class ≡ 1 → layout_of number 1 ≡ Some (layout_value fields end) → Shown (IsLayoutText None fields end) text octets
    → ShowsData rtype class text octets
in_one rtype class number text octets same one known shown =
    in_layout rtype class number text octets same (ap (layout_of number) one ∙ known) shown

pub typed_shown : (rtype class : ℕ) (w inside : Window) (rdata : ParsedRdata) → IsSoundWindow w → IsSoundWindow inside
    → IsTypedData rtype class w inside rdata → ShowsData rtype class (rdata_text rdata) (rdata_octets rdata)
unfolding layout_of
typed_shown rtype class w inside (ParsedRdata.a octets) sound in_it is =
    let (same, one, at) = is.rdata_is in
    in_one rtype class types.a (ipv4_text octets) octets same one refl (ipv4_shown w octets is.end sound at)
typed_shown rtype class w inside (ParsedRdata.aaaa octets) sound in_it is =
    let (same, one, at) = is.rdata_is in
    in_one rtype class types.aaaa (ipv6_address_text octets) octets same one refl (ipv6_shown w octets is.end sound at)
typed_shown rtype class w inside (ParsedRdata.ns name) sound in_it is =
    let (same, at) = is.rdata_is in
    in_layout rtype class types.ns _ _ same refl ((shown_alone a_name).shown w name is.end sound at)
typed_shown rtype class w inside (ParsedRdata.cname name) sound in_it is =
    let (same, at) = is.rdata_is in
    in_layout rtype class types.cname _ _ same refl ((shown_alone a_name).shown w name is.end sound at)
typed_shown rtype class w inside (ParsedRdata.ptr name) sound in_it is =
    let (same, at) = is.rdata_is in
    in_layout rtype class types.ptr _ _ same refl ((shown_alone a_name).shown w name is.end sound at)
typed_shown rtype class w inside (ParsedRdata.mx mx) sound in_it is =
    let (same, at) = is.rdata_is in
    in_layout rtype class types.mx _ _ same refl (mx_shown.shown w (mx_parts mx) is.end sound at)
typed_shown rtype class w inside (ParsedRdata.soa soa) sound in_it is =
    let (same, at) = is.rdata_is in
    in_layout rtype class types.soa _ _ same refl (soa_shown.shown w (soa_parts soa) is.end sound at)
typed_shown rtype class w inside (ParsedRdata.txt strings) sound in_it is =
    let (same, at) = is.rdata_is in
    in_layout rtype class types.txt _ _ same refl (strings_shown w is.end strings sound at)
typed_shown rtype class w inside (ParsedRdata.srv srv) sound in_it is =
    let (same, one, at) = is.rdata_is in
    in_one rtype class types.srv _ _ same one refl (srv_shown.shown w (srv_parts srv) is.end sound at)
typed_shown rtype class w inside (ParsedRdata.naptr naptr) sound in_it is =
    let (same, one, at) = is.rdata_is in
    in_one rtype class types.naptr _ _ same one refl (naptr_shown.shown w (naptr_parts naptr) is.end sound at)
typed_shown rtype class w inside (ParsedRdata.local k found) sound in_it is =
    subst (λ n. ShowsData n class ((form k).text found) ((form k).octets ((form k).says found))) (sym is.rtype_is)
    (local_shown k class inside found _ in_it is.class_is is.whole)
typed_shown rtype class w inside (ParsedRdata.unknown other octets) sound in_it is = absurd is.rdata_is

-- ---- unknown data

-- the words of octets in hexadecimal
abbrev hex_runs : List ℕ → List (List ℕ)
hex_runs [] = []
hex_runs (octet ∷ octets) = flat_map hex_text (octet ∷ octets) ∷ []

runs_spelled : (octets : List ℕ) → octets_after octets ≡ spaced (hex_runs octets)
runs_spelled [] = refl
runs_spelled (octet ∷ octets) = ap (λ t. 32 ∷ t) (sym (append-nil (flat_map hex_text (octet ∷ octets))))

runs_words : (octets : List ℕ) → AllByRecursion IsLineWord (hex_runs octets)
runs_words [] = tt
runs_words (octet ∷ octets) =
    let first = hex_first (octet ∷ octets) (omega arith) in
    ((first.0, first.1), tt)

runs_are : (octets : List ℕ) → AreOctets octets → AreRuns IsHexText (hex_runs octets) octets
runs_are [] each = (tt, refl)
runs_are (octet ∷ octets) each = (hex_shown (octet ∷ octets) each).1

pub unknown_shown : (rtype class : ℕ) (octets : List ℕ) → AreOctets octets → length octets ≤ 65535
    → ShowsData rtype class (opaque_text octets) octets
unknown_shown rtype class octets all few =
    let n = length octets in
    let small : n < 2 ^ 64 = omega (arith, few) in
    let value = shown_value n small in
    let runs = hex_runs octets in
    let front = codes "\\# " ++ decimal n in
    let spelled = ap (λ t. front ++ t) (runs_spelled octets) in
    let first = decimal_first n small in
    let each : AllByRecursion IsLineWord (decimal n ∷ runs) = ((first.0, first.1), runs_words octets) in
    let before : IsFeedless opaque_word = (λ same. omega (arith, same), (λ same. omega (arith, same), tt)) in
    record {
      words = opaque_word ∷ decimal n ∷ runs;
      are = subst (AreWords (opaque_word ∷ decimal n ∷ runs)) (sym spelled)
          (spaced_words opaque_word (decimal n ∷ runs) (escaped_word 35) each);
      one_line = subst IsFeedless (sym spelled) (spaced_feedless opaque_word (decimal n ∷ runs) before each);
      is = inl (
        decimal n ∷ runs,
        refl,
        (
          decimal n,
          runs,
          refl,
          shown_digits n small,
          omega (arith, value, few),
          sym value,
          runs_are octets all,
        ),
      );
    }

-- what data says is shown as data of its type and class
pub says_shown : (rtype class : ℕ) (w inside : Window) (rdata : ParsedRdata) → IsSoundWindow w → IsSoundWindow inside
    → left inside ≤ 65535 → SaysData rtype class w inside rdata
    → ShowsData rtype class (rdata_text rdata) (rdata_octets rdata)
says_shown rtype class w inside rdata sound in_it few (inl is) =
    typed_shown rtype class w inside rdata sound in_it is
says_shown rtype class w inside rdata sound in_it few (inr (same, none)) =
    let long = many_rest inside in_it in
    subst (λ d. ShowsData rtype class (rdata_text d) (rdata_octets d)) (sym same)
    (unknown_shown rtype class (rest inside) (each_rest inside in_it) (omega (arith, long, few)))

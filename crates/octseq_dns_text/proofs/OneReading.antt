-- Words are one data of a type and a class at most.
use Rattle.std.proofs.Common.{◌≡◌, ℕ, ◌≤◌, List, [], ◌∷◌, ◌++◌, map, length, refl, sym, ap, ◌∙◌, subst, arith, Option}
use Rattle.std.proofs.Common.{Some, None, inl, inr}
use Rattle.std.specs.List.{concat}
use Rattle.octseq.proofs.WrittenBack.{AreOctets}
use Rattle.octseq.specs.Integer.{octets_be}
use Rattle.octseq_dns_data.specs.declared.layout.Field.{Field}
use Rattle.octseq_dns_data.specs.declared.layout.Field.TheVariants as field
use Rattle.octseq_dns_data.specs.declared.layout.Tail.{Tail}
use Rattle.octseq_dns_data.specs.declared.layout.Tail.TheVariants as tail
use Rattle.octseq_dns_name.proofs.Readings.{name_once, name_once_with_origin}
use Rattle.octseq_dns_name.specs.Wire.{wire, IsWireOf}
use Rattle.octseq_dns_scan.proofs.Addresses.{one_ipv4, one_ipv6}
use Rattle.octseq_dns_scan.proofs.Base32hexTexts.{base32hex_same}
use Rattle.octseq_dns_scan.proofs.Base64Texts.{base64_same}
use Rattle.octseq_dns_scan.proofs.Calendar.{time_once}
use Rattle.octseq_dns_scan.proofs.HexTexts.{hex_same}
use Rattle.octseq_dns_scan.proofs.Spellings.{string_once}
use Rattle.octseq_dns_scan.specs.Hex.{IsHexText}
use Rattle.octseq_dns_scan.specs.Spelled.{SpellsString}
use Rattle.octseq_dns_text.proofs.ParamsTexts.{params_once}
use Rattle.octseq_dns_text.proofs.TypesTexts.{type_once, types_once}
use Rattle.octseq_dns_text.proofs.WordTexts.{hex_text_length}
use Rattle.octseq_dns_text.specs.DataText.{IsSizedText, opaque_word, IsDataText}
use Rattle.octseq_dns_text.specs.Fields.{SpellsAt, IsNameWord, IsTagWord, IsFieldText}
use Rattle.octseq_dns_text.specs.Layouts.{TextLayout, IsLayoutText}
use Rattle.octseq_dns_text.specs.Tails.{IsLongString, AreStrings, IsTailText}
use Rattle.octseq_dns_text.specs.Words.{IsNumeralWord, IsCountedWord, IsStringWord, IsSomeHex, IsSomeBase32hex, IsSalt}

number_one : (size : ℕ) (word octets other : List ℕ) → IsNumeralWord size word octets → IsNumeralWord size word other
    → octets ≡ other
number_one size word octets other (numeral, few, same) (also, too, equal) = same ∙ sym equal

counted_one : (Is : List ℕ → List ℕ → Type 0) (word octets other : List ℕ)
    → ((one two : List ℕ) → Is word one → Is word two → one ≡ two) → IsCountedWord Is word octets
    → IsCountedWord Is word other → octets ≡ other
counted_one Is word octets other once (one, is, few, same) (two, also, too, equal) =
    same ∙ ap (λ inside. length inside ∷ inside) (once one two is also) ∙ sym equal

hex_one : (word one two : List ℕ) → IsSomeHex word one → IsSomeHex word two → one ≡ two
hex_one word one two (some, are, is) (too, also, equal) = hex_same one two are also (sym is ∙ equal)

base32hex_one : (word one two : List ℕ) → IsSomeBase32hex word one → IsSomeBase32hex word two → one ≡ two
base32hex_one word one two (some, are, is) (too, also, equal) = base32hex_same one two are also (sym is ∙ equal)

hyphen : (word one : List ℕ) → word ≡ 45 ∷ [] → ¬ IsSomeHex word one
hyphen word one same (some, are, is) =
    let lengths = ap length same in
    absurd (omega (arith, lengths, some, hex_text_length word one is))

salt_one : (word one two : List ℕ) → IsSalt word one → IsSalt word two → one ≡ two
salt_one word one two (inl (same, none)) (inl (equal, nothing)) = none ∙ sym nothing
salt_one word one two (inl (same, none)) (inr hex) = absurd (hyphen word two same hex)
salt_one word one two (inr hex) (inl (same, none)) = absurd (hyphen word one same hex)
salt_one word one two (inr hex) (inr also) = hex_one word one two hex also

name_one : (origin : Option (List (List ℕ))) (word octets other : List ℕ) → IsNameWord origin word octets
    → IsNameWord origin word other → octets ≡ other
name_one None word octets other (labels, spells, (same, are, short)) (others, also, (equal, too, few)) =
    same ∙ ap wire (name_once labels others word are too spells also) ∙ sym equal
name_one (Some origin) word octets other (labels, spells, (same, are, short)) (others, also, (equal, too, few)) =
    same ∙ ap wire (name_once_with_origin origin labels others word are short too few spells also) ∙ sym equal

field_one : (origin : Option (List (List ℕ))) (it : Field) (word octets other : List ℕ)
    → IsFieldText origin it word octets → IsFieldText origin it word other → octets ≡ other
field_one origin field.U8 word octets other is also = number_one 1 word octets other is also
field_one origin field.U16 word octets other is also = number_one 2 word octets other is also
field_one origin field.U32 word octets other is also = number_one 4 word octets other is also
field_one origin field.Rtype word octets other (a, is, same) (b, also, equal) =
    same ∙ ap (octets_be 2) (type_once word a b is also) ∙ sym equal
field_one origin field.Time word octets other (a, is, same) (b, also, equal) =
    same ∙ ap (octets_be 4) (time_once word a b is also) ∙ sym equal
field_one origin field.Ipv4 word octets other is also = one_ipv4 word octets other is also
field_one origin field.Ipv6 word octets other (are, long, is) (too, size, also) =
    one_ipv6 word octets other are long too size is also
field_one origin field.Name word octets other is also = name_one origin word octets other is also
field_one origin field.String word octets other is also =
    counted_one (λ w inside. SpellsString inside w) word octets other
    (λ one two spells too. string_once one two word spells too) is also
field_one origin field.Tag word octets other is also =
    counted_one IsTagWord word octets other (λ one two (same, tag) (equal, too). same ∙ sym equal) is also
field_one origin field.Salt word octets other is also =
    counted_one IsSalt word octets other (salt_one word) is also
field_one origin field.OwnerHash word octets other is also =
    counted_one IsSomeBase32hex word octets other (base32hex_one word) is also

value_one : (least : ℕ) (words : List (List ℕ)) (octets other : List ℕ) → IsLongString least words octets
    → IsLongString least words other → octets ≡ other
value_one least words octets other (word, same, spells, long) (two, equal, also, too) =
    let one : two ≡ word = cc in
    string_once octets other word spells (subst (SpellsString other) one also)

strings_one : (words : List (List ℕ)) (octets other : List ℕ) → AreStrings words octets → AreStrings words other
    → octets ≡ other
strings_one [] octets other same equal = same ∙ sym equal
strings_one (word ∷ words) octets other (first, rest, is, are, same) (head, end, also, too, equal) =
    let firsts = field_one None field.String word first head is also in
    let rests = strings_one words rest end are too in
    same ∙ ap (λ all. all ++ rest) firsts ∙ ap (λ all. head ++ all) rests ∙ sym equal

tail_one : (it : Tail) (words : List (List ℕ)) (octets other : List ℕ) → IsTailText it words octets
    → IsTailText it words other → octets ≡ other
tail_one tail.Nothing words octets other (same, none) (equal, nothing) = none ∙ sym nothing
tail_one tail.Value words octets other is also = value_one 0 words octets other is also
tail_one tail.Target words octets other is also = value_one 1 words octets other is also
tail_one tail.Strings words octets other (some, are) (too, also) = strings_one words octets other are also
tail_one tail.Hex words octets other (some, (are, is)) (too, (also, equal)) =
    hex_same octets other are also (sym is ∙ equal)
tail_one tail.Types words octets other is also = types_once words octets other is also
tail_one tail.Params words octets other is also = params_once words octets other is also
tail_one tail.Base64 words octets other (some, (are, is)) (too, (also, equal)) =
    base64_same octets other are also (sym is ∙ equal)

layout_one : (origin : Option (List (List ℕ))) (fields : List Field) (it : Tail) (words : List (List ℕ))
    (octets other : List ℕ) → IsLayoutText origin fields it words octets → IsLayoutText origin fields it words other
    → octets ≡ other
layout_one origin [] it words octets other is also = tail_one it words octets other is also
layout_one origin (one ∷ fields) it words octets other (word, more, first, rest, split, is, are, same)
    (two, later, head, end, parts, also, too, equal) =
    let this : two ≡ word = cc in
    let those : later ≡ more = cc in
    let firsts = field_one origin one word first head is (subst (λ w. IsFieldText origin one w head) this also) in
    let rests = layout_one origin fields it more rest end are
    (subst (λ all. IsLayoutText origin fields it all end) those too) in
    same ∙ ap (λ all. all ++ rest) firsts ∙ ap (λ all. head ++ all) rests ∙ sym equal

sized_one : (words : List (List ℕ)) (octets other : List ℕ) → IsSizedText words octets → IsSizedText words other
    → octets ≡ other
sized_one words octets other (number, runs, split, numeral, few, long, (are, is))
    (two, later, parts, also, too, size, (all, equal)) =
    let rest : later ≡ runs = cc in
    hex_same octets other are all (sym is ∙ subst (λ text. IsHexText (concat text) other) rest equal)

pub data_one : (origin : Option (List (List ℕ))) (rtype class : ℕ) (words : List (List ℕ)) (octets other : List ℕ)
    → IsDataText origin rtype class words octets → IsDataText origin rtype class words other → octets ≡ other
data_one origin rtype class words octets other (inl (after, same, is)) (inl (also, equal, too)) =
    let rest : also ≡ after = cc in
    sized_one after octets other is (subst (λ all. IsSizedText all other) rest too)
data_one origin rtype class words octets other (inl (after, same, is)) (inr (never, typed)) = absurd (never after same)
data_one origin rtype class words octets other (inr (never, typed)) (inl (after, same, is)) = absurd (never after same)
data_one origin rtype class words octets other (inr (never, (layout, known, is))) (inr (also, (two, found, too))) =
    let same : two ≡ layout = cc in
    layout_one origin layout.fields layout.tail words octets other is
    (subst (λ l. IsLayoutText origin l.fields l.tail words other) same too)

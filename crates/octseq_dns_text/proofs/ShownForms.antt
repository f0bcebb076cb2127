-- The texts of forms consist of the words of layouts: part by part.
use Rattle.std.proofs.Common.{◌≡◌, ℕ, ◌+◌, ◌-◌, ◌≤◌, ◌^◌, ◌<◌, None, List, [], ◌∷◌, ◌++◌, length, refl, sym, ap, ◌∙◌}
use Rattle.std.proofs.Common.{subst, arith, append-nil, decimal}
use Rattle.std.proofs.lemmas.List.Elements.{All-from_recursion}
use Rattle.std.specs.List.{All, AllByRecursion}
use Rattle.octseq.proofs.WrittenBack.{AreOctets}
use Rattle.octseq.specs.Integer.{be, octets_be}
use Rattle.octseq.specs.OctetsText.{string_text}
use Rattle.octseq.specs.Window.{Window, nested, rest}
use Rattle.octseq_dns_data.specs.Form.{
  Form,
  FormPart,
  ◌followed_by◌,
  ◌then_each◌,
  rest_form,
  alone,
  domain_name,
  number,
}
use Rattle.octseq_dns_data.specs.Form.{formed_rest, plain_name, string}
use Rattle.octseq_dns_data.specs.Formed.{IsFormed, IsSome, IsSomeString, IsString}
use Rattle.octseq_dns_data.specs.UncompressedName.{named}
use Rattle.octseq_dns_data.specs.Tag.{IsCaaTag}
use Rattle.octseq_dns_data.specs.Typed.{hexadecimal, owner_hash, quoted, rtype_number, salt, salt_text, some_base64}
use Rattle.octseq_dns_data.specs.Typed.{some_hexadecimal, time}
use Rattle.octseq_dns_name.proofs.LabelLaws.{named_labels, named_octets}
use Rattle.octseq_dns_name.specs.Name.{HasName, Name}
use Rattle.octseq_dns_name.specs.NameFormat.{NameFits, onward_name}
use Rattle.octseq_dns_name.specs.OneName.{Named}
use Rattle.octseq_dns_name.specs.Text.{name_text}
use Rattle.octseq_dns_name.specs.Wire.{wire}
use Rattle.octseq_dns_scan.specs.Base32hex.{base32hex_text}
use Rattle.octseq_dns_scan.specs.Base64.{base64_text}
use Rattle.octseq_format.specs.Canonical.{IsSoundWindow, each_dropped, each_taken, sound_nested}
use Rattle.octseq_format.specs.Canonical.{sound_on, sound_past}
use Rattle.octseq_format.specs.Counted.{Counted, counted_octets}
use Rattle.octseq_format.specs.Fixed.{IsFixed, canonical_fixed, most_fixed}
use Rattle.octseq_format.specs.Integers.{are_be}
use Rattle.octseq_format.specs.Pair.{both_octets, both_say}
use Rattle.std.proofs.lemmas.Bool.{or_parts}
use Rattle.std.proofs.Math.Bool.{true≢false}
use Rattle.std.proofs.Common.{Bool, true, false, ◌||◌, append_assoc}
use Rattle.octseq_format.specs.Rest.{IsRest, canonical_rest}
use Rattle.octseq_format.specs.Counted.{canonical_counted}
use Rattle.octseq_dns_text.proofs.PlainWires.{labels_written, one_be}
use Rattle.octseq_dns_text.proofs.NameWords.{name_first, string_first}
use Rattle.octseq_dns_text.proofs.OrdinaryTexts.{base32hex_first, base64_first, decimal_first, hex_first, rtype_first}
use Rattle.octseq_dns_text.proofs.OrdinaryTexts.{salt_first, tag_first}
use Rattle.octseq_dns_text.proofs.ShownFields.{base64_shown, hash_shown, hex_shown, name_shown, number_shown}
use Rattle.octseq_dns_text.proofs.ShownFields.{rtype_shown, salt_shown, string_shown, time_shown, value_shown}
use Rattle.octseq_dns_text.proofs.SpacedWords.{IsFirst, IsLineWord, spaced}
use Rattle.octseq_dns_text.specs.Fields.{IsFieldText}
use Rattle.octseq_dns_text.specs.Layouts.{IsLayoutText}
use Rattle.octseq_dns_text.specs.Tails.{IsTailText}
use Rattle.octseq_dns_data.specs.declared.layout.Field.{Field}
use Rattle.octseq_dns_data.specs.declared.layout.Field.TheVariants as field
use Rattle.octseq_dns_data.specs.declared.layout.Tail.{Tail}
use Rattle.octseq_dns_data.specs.declared.layout.Tail.TheVariants as tail

-- ---- what is shown

-- A text is words with a space between them, which are a text of these octets. The first isn't that before opaque data.
pub record Shown (Is : List (List ℕ) → List ℕ → Type 0) (text octets : List ℕ) : Type 0 where
  pub word : List ℕ
  pub more : List (List ℕ)
  pub spelled : text ≡ word ++ spaced more
  pub first : IsFirst word
  pub each : AllByRecursion IsLineWord more
  pub is : Is (word ∷ more) octets

-- A text is words after a space each, which are a tail of these octets.
pub record ShownAfter (it : Tail) (text octets : List ℕ) : Type 0 where
  pub words : List (List ℕ)
  pub spelled : text ≡ spaced words
  pub each : AllByRecursion IsLineWord words
  pub is : IsTailText it words octets

-- The text of a part is a word, which is a field of the part's octets. What it says has octets. They are those that it
-- takes, unless it may have pointers.
pub record IsShownPart (may : Bool) (it : Field) (part : FormPart) : Type 0 where
  pub word : (w : Window) (found : part.Found) (v : Window) → IsSoundWindow w → part.Is w found v
      → IsFirst (part.text found) × IsFieldText None it (part.text found) (part.octets (part.says found))
  pub fits : (w : Window) (found : part.Found) (v : Window) → IsSoundWindow w → part.Is w found v
      → part.Fits (part.says found)
  pub written : may ≡ false → (w : Window) (found : part.Found) (v : Window) → IsSoundWindow w → part.Is w found v
      → rest w ≡ part.octets (part.says found) ++ rest v
  pub on : (w : Window) (found : part.Found) (v : Window) → IsSoundWindow w → part.Is w found v → IsSoundWindow v

-- The text of a form consists of the words of a layout. What it says has octets. They are those that it takes, unless
-- it may have pointers.
pub record IsShownForm (may : Bool) (fields : List Field) (it : Tail) (form : Form) : Type 0 where
  pub shown : (w : Window) (found : form.Found) (v : Window) → IsSoundWindow w → form.Is w found v
      → Shown (IsLayoutText None fields it) (form.text found) (form.octets (form.says found))
  pub fits : (w : Window) (found : form.Found) (v : Window) → IsSoundWindow w → form.Is w found v
      → form.Fits (form.says found)
  pub written : may ≡ false → (w : Window) (found : form.Found) (v : Window) → IsSoundWindow w → form.Is w found v
      → rest w ≡ form.octets (form.says found) ++ rest v

-- The text of a form is a tail, with a space before each word.
pub record IsShownTail (it : Tail) (form : Form) : Type 0 where
  pub shown : (w : Window) (found : form.Found) (v : Window) → IsSoundWindow w → form.Is w found v
      → ShownAfter it (form.text found) (form.octets (form.says found))
  pub fits : (w : Window) (found : form.Found) (v : Window) → IsSoundWindow w → form.Is w found v
      → form.Fits (form.says found)
  pub written : (w : Window) (found : form.Found) (v : Window) → IsSoundWindow w → form.Is w found v
      → rest w ≡ form.octets (form.says found) ++ rest v

-- ---- one after another

module _ {a b : Bool} {it : Field} {part : FormPart} {fields : List Field} {end : Tail} {form : Form} where
  infixr 5 ◌shown_before◌
  pub ◌shown_before◌ : IsShownPart a it part → IsShownForm b fields end form
      → IsShownForm (a || b) (it ∷ fields) end (part followed_by form)
  unfolding both_octets both_say
  one shown_before two = record {
    shown = λ w found v sound is.
        let here = one.word w found.0 is.0 sound is.1 in
        let after = two.shown is.0 found.1 v (one.on w found.0 is.0 sound is.1) is.2 in
        let word = part.text found.0 in
        let octets = part.octets (part.says found.0) in
        let others = form.octets (form.says found.1) in
        record {
          word = word;
          more = after.word ∷ after.more;
          spelled = ap (λ t. word ++ 32 ∷ t) after.spelled;
          first = here.0;
          each = ((after.first.0, after.first.1), after.each);
          is = (word, after.word ∷ after.more, octets, others, refl, here.1, after.is, refl);
        };
    fits = λ w found v sound is. record {
      first = one.fits w found.0 is.0 sound is.1;
      second = two.fits is.0 found.1 v (one.on w found.0 is.0 sound is.1) is.2;
    };
    written = λ plain w found v sound is.
        let both = or_parts a b plain in
        let x = part.octets (part.says found.0) in
        let y = form.octets (form.says found.1) in
        let on = one.on w found.0 is.0 sound is.1 in
        one.written both.0 w found.0 is.0 sound is.1 ∙ ap (λ t. x ++ t) (two.written both.1 is.0 found.1 v on is.2)
        ∙ sym (append_assoc x y (rest v));
  }

module _ {may : Bool} {it : Field} {part : FormPart} {end : Tail} {form : Form} where
  infixr 5 ◌shown_with◌
  pub ◌shown_with◌ : IsShownPart may it part → IsShownTail end form
      → IsShownForm may (it ∷ []) end (part then_each form)
  unfolding both_octets both_say
  one shown_with two = record {
    shown = λ w found v sound is.
        let here = one.word w found.0 is.0 sound is.1 in
        let after = two.shown is.0 found.1 v (one.on w found.0 is.0 sound is.1) is.2 in
        let word = part.text found.0 in
        let octets = part.octets (part.says found.0) in
        let others = form.octets (form.says found.1) in
        record {
          word = word;
          more = after.words;
          spelled = ap (λ t. word ++ t) after.spelled;
          first = here.0;
          each = after.each;
          is = (word, after.words, octets, others, refl, here.1, after.is, refl);
        };
    fits = λ w found v sound is. record {
      first = one.fits w found.0 is.0 sound is.1;
      second = two.fits is.0 found.1 v (one.on w found.0 is.0 sound is.1) is.2;
    };
    written = λ plain w found v sound is.
        let x = part.octets (part.says found.0) in
        let y = form.octets (form.says found.1) in
        let on = one.on w found.0 is.0 sound is.1 in
        one.written plain w found.0 is.0 sound is.1 ∙ ap (λ t. x ++ t) (two.written is.0 found.1 v on is.2)
        ∙ sym (append_assoc x y (rest v));
  }

pub shown_alone : {may : Bool} {it : Field} {part : FormPart} → IsShownPart may it part
    → IsShownForm may (it ∷ []) tail.Nothing (alone part)
shown_alone {part = part} one = record {
  shown = λ w found v sound is.
      let here = one.word w found v sound is in
      let word = part.text found in
      let octets = part.octets (part.says found) in
      record {
        word = word;
        more = [];
        spelled = sym (append-nil word);
        first = here.0;
        each = tt;
        is = (word, [], octets, [], refl, here.1, (refl, refl), sym (append-nil octets));
      };
  fits = one.fits;
  written = one.written;
}

-- ---- parts of one word

pub number_fits : (k n : ℕ) (w v : Window) → IsSoundWindow w → IsFixed k be w n v → n < 256 ^ k
number_fits k n w v sound is = ((canonical_fixed (are_be k)).written w n v sound is).0

pub number_on : (k n : ℕ) (w v : Window) → IsSoundWindow w → IsFixed k be w n v → IsSoundWindow v
number_on k n w v sound is = (canonical_fixed (are_be k)).on w n v sound is

-- a number of at most 4 octets is shown in digits
digits_first : (k n : ℕ) → k ≤ 4 → n < 256 ^ k → IsFirst (decimal n)
digits_first k n few small = decimal_first n (most_fixed k (omega (arith, few)) n small)

pub one_octet : IsShownPart false field.U8 (number 1)
one_octet = record {
  word = λ w n v sound is.
      let small = number_fits 1 n w v sound is in
      (digits_first 1 n (omega arith) small, number_shown 1 n (omega arith) small);
  fits = λ w n v sound is. number_fits 1 n w v sound is;
  written = λ plain w n v sound is. ((canonical_fixed (are_be 1)).written w n v sound is).1;
  on = λ w n v sound is. number_on 1 n w v sound is;
}

pub two_octets : IsShownPart false field.U16 (number 2)
two_octets = record {
  word = λ w n v sound is.
      let small = number_fits 2 n w v sound is in
      (digits_first 2 n (omega arith) small, number_shown 2 n (omega arith) small);
  fits = λ w n v sound is. number_fits 2 n w v sound is;
  written = λ plain w n v sound is. ((canonical_fixed (are_be 2)).written w n v sound is).1;
  on = λ w n v sound is. number_on 2 n w v sound is;
}

pub four_octets : IsShownPart false field.U32 (number 4)
four_octets = record {
  word = λ w n v sound is.
      let small = number_fits 4 n w v sound is in
      (digits_first 4 n (omega arith) small, number_shown 4 n (omega arith) small);
  fits = λ w n v sound is. number_fits 4 n w v sound is;
  written = λ plain w n v sound is. ((canonical_fixed (are_be 4)).written w n v sound is).1;
  on = λ w n v sound is. number_on 4 n w v sound is;
}

pub a_time : IsShownPart false field.Time time
a_time = record {
  word = λ w n v sound is.
      let small = number_fits 4 n w v sound is in
      (digits_first 4 n (omega arith) small, time_shown n small);
  fits = λ w n v sound is. number_fits 4 n w v sound is;
  written = λ plain w n v sound is. ((canonical_fixed (are_be 4)).written w n v sound is).1;
  on = λ w n v sound is. number_on 4 n w v sound is;
}

pub a_type : IsShownPart false field.Rtype rtype_number
a_type = record {
  word = λ w n v sound is.
      let small = number_fits 2 n w v sound is in
      (rtype_first n small, rtype_shown n small);
  fits = λ w n v sound is. number_fits 2 n w v sound is;
  written = λ plain w n v sound is. ((canonical_fixed (are_be 2)).written w n v sound is).1;
  on = λ w n v sound is. number_on 2 n w v sound is;
}

name_is_shown : (w : Window) (name : Name) (v : Window) → IsSoundWindow w → HasName w name v
    → IsFieldText None field.Name (name_text name.labels) (wire name.labels)
name_is_shown w name v sound is =
    let labels : Named w = (name.labels, ∣ (v, is.1) ∣₁) in
    name_shown None name.labels (named_octets w labels sound.each) (named_labels w labels sound.within) is.1.short

pub name_fits : (w : Window) (name : Name) (v : Window) → IsSoundWindow w → HasName w name v → NameFits name.labels
name_fits w name v sound is =
    let labels : Named w = (name.labels, ∣ (v, is.1) ∣₁) in
    record { each = named_labels w labels sound.within; short = is.1.short }

pub a_name : IsShownPart true field.Name domain_name
a_name = record {
  word = λ w name v sound is. (name_first name.labels, name_is_shown w name v sound is);
  fits = λ w name v sound is. name_fits w name v sound is;
  written = λ plain. absurd (true≢false plain);
  on = λ w name v sound is. sound_on onward_name w name v sound is;
}

pub a_plain_name : IsShownPart false field.Name plain_name
a_plain_name = record {
  word = λ w name v sound is. (name_first name.labels, name_is_shown w name v sound (named w v name is));
  fits = λ w name v sound is. name_fits w name v sound (named w v name is);
  written = λ plain w name v sound is. labels_written w.position w v name.labels 0 sound refl is.1.has_labels;
  on = λ w name v sound is. sound_on onward_name w name v sound (named w v name is);
}

-- ---- octets

pub each_rest : (w : Window) → IsSoundWindow w → AreOctets (rest w)
each_rest w sound = each_taken (w.end - w.position) _ (each_dropped w.position w.octets sound.each)

pub all_octets_of : (octets : List ℕ) → AreOctets octets → All (λ octet. octet < 256) octets
all_octets_of octets each = All-from_recursion (λ octet. octet < 256) octets each

-- octets after their length
counted : (octets : List ℕ) → length octets ≤ 255
    → counted_octets 1 0 (λ (octets : List ℕ). octets) octets ≡ length octets ∷ octets
counted octets few =
    let none : 0 + length octets ≡ length octets = omega arith in
    ap (λ n. octets_be 1 n ++ octets) none
    ∙ ap (λ front. front ++ octets) (one_be (length octets) (omega (arith, few)))

counted_each : (HasForm : List ℕ → Type 0) (w place v : Window) → IsSoundWindow w
    → Counted 1 0 (IsFormed HasForm) w place v
    → AreOctets (rest place) × HasForm (rest place)
counted_each HasForm w place v sound (n, u, number, (least, room, formed, moved)) =
    let on = number_on 1 n w u sound number in
    let inside = sound_nested (n - 0) u on room in
    (subst (λ p. AreOctets (rest p)) (sym formed.0.0) (each_rest (nested (n - 0) u) inside), formed.1)

counted_on : (HasForm : List ℕ → Type 0) (w place v : Window) → IsSoundWindow w
    → Counted 1 0 (IsFormed HasForm) w place v
    → IsSoundWindow v
counted_on HasForm w place v sound (n, u, number, (least, room, formed, moved)) =
    let on = number_on 1 n w u sound number in
    subst IsSoundWindow (sym moved) (sound_past (n - 0) u on room)

-- The text of octets with a form is a word, which is a field of them after their length.
record IsShownString (it : Field) (HasForm : List ℕ → Type 0) (text : List ℕ → List ℕ) : Type 0 where
  few : (octets : List ℕ) → HasForm octets → length octets ≤ 255
  word : (octets : List ℕ) → AreOctets octets → HasForm octets
      → IsFirst (text octets) × IsFieldText None it (text octets) (length octets ∷ octets)

a_counted : {it : Field} {HasForm : List ℕ → Type 0} {text : List ℕ → List ℕ} → IsShownString it HasForm text
    → IsShownPart false it (string HasForm text it)
a_counted {it = it} {HasForm = HasForm} {text = text} shows = record {
  word = λ w place v sound is.
      let each = counted_each HasForm w place v sound is in
      let both = shows.word (rest place) each.0 each.1 in
      let same = counted (rest place) (shows.few (rest place) each.1) in
      (both.0, subst (IsFieldText None it (text (rest place))) (sym same) both.1);
  fits = λ w place v sound is.
      let form = (counted_each HasForm w place v sound is).1 in
      let few = shows.few (rest place) form in
      record { tag_fits = omega (arith, few); inside = record { inside = (tt, form); many = refl } };
  written = λ plain w place v sound is.
      let (n, u, number, (least, room, formed, moved)) = is in
      let all : Counted 1 0 IsRest w place v = (n, u, number, (least, room, formed.0, moved)) in
      ((canonical_counted {k = 1} {extra = 0} canonical_rest).written w place v sound all).1;
  on = λ w place v sound is. counted_on HasForm w place v sound is;
}

pub a_string : IsShownPart false field.String quoted
a_string = a_counted {HasForm = IsString} (record {
  few = λ octets is. is;
  word = λ octets each is.
      let all = all_octets_of octets each in (string_first octets all, string_shown octets all is);
})

pub a_salt : IsShownPart false field.Salt salt
a_salt = a_counted {HasForm = IsString} (record {
  few = λ octets is. is;
  word = λ octets each is. (salt_first octets, salt_shown octets each is);
})

pub a_hash : IsShownPart false field.OwnerHash owner_hash
a_hash = a_counted {HasForm = IsSomeString} (record {
  few = λ octets is. is.1;
  word = λ octets each is. (base32hex_first octets is.0, hash_shown octets each is.0 is.1);
})

pub a_tag : IsShownPart false field.Tag (string IsCaaTag (λ tag. tag) field.Tag)
a_tag = a_counted {HasForm = IsCaaTag} (record {
  few = λ tag is. is.1;
  word = λ tag each is. (tag_first tag is.0, (tag, (refl, is.0), is.1, refl));
})

-- ---- tails of one word

one_word : (it : Tail) (word octets : List ℕ) → IsFirst word → IsTailText it (word ∷ []) octets
    → Shown (IsLayoutText None [] it) word octets
one_word it word octets first is = record {
  word = word;
  more = [];
  spelled = sym (append-nil word);
  first = first;
  each = tt;
  is = is;
}

-- all octets that are left, of which there is one
some_octets : {it : Tail} {text : List ℕ → List ℕ} → ((octets : List ℕ) → AreOctets octets → 1 ≤ length octets
    → IsFirst (text octets) × IsTailText it (text octets ∷ []) octets)
    → IsShownForm false [] it (formed_rest IsSome text it)
some_octets {it = it} {text = text} shows = record {
  shown = λ w place v sound is.
      let each = subst (λ p. AreOctets (rest p)) (sym is.0.0) (each_rest w sound) in
      let both = shows (rest place) each is.1 in
      one_word it (text (rest place)) (rest place) both.0 both.1;
  fits = λ w place v sound is. (tt, is.1);
  written = λ plain w place v sound is. (canonical_rest.written w place v sound is.0).1;
}

pub a_digest : IsShownForm false [] tail.Hex some_hexadecimal
a_digest = some_octets (λ octets each some. (hex_first octets some, hex_shown octets each))

pub a_key : IsShownForm false [] tail.Base64 some_base64
a_key = some_octets (λ octets each some. (base64_first octets some, base64_shown octets each))

pub a_target : IsShownForm false [] tail.Target (formed_rest IsSome string_text tail.Target)
a_target = some_octets (λ octets each some.
    let all = all_octets_of octets each in (string_first octets all, value_shown octets 1 all some))

pub a_value : IsShownForm false [] tail.Value (rest_form string_text tail.Value)
a_value = record {
  shown = λ w place v sound is.
      let each = subst (λ p. AreOctets (rest p)) (sym is.0) (each_rest w sound) in
      let all = all_octets_of (rest place) each in
      one_word tail.Value (string_text (rest place)) (rest place) (string_first (rest place) all)
      (value_shown (rest place) 0 all (omega arith));
  fits = λ w place v sound is. tt;
  written = λ plain w place v sound is. (canonical_rest.written w place v sound is).1;
}

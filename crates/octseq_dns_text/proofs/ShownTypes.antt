-- The text of data of each type that is read by itself consists of the words of the type's layout.
use Rattle.std.proofs.Common.{◌≡◌, ℕ, Bool, true, false, inr, Some, None, List, [], ◌∷◌, ◌++◌}
use Rattle.std.proofs.Common.{refl, sym, ap, ◌∙◌, subst, append-nil}
use Rattle.std.proofs.lemmas.Bool.Decides.{Decides-eqb}
use Rattle.std.specs.Prelude.{nat_eq}
use Rattle.octseq.specs.Window.{Window, left, past, rest}
use Rattle.octseq_dns_data.specs.Form.{Form, no_form}
use Rattle.octseq_dns_data.specs.Typed.{IsClass, IsOfClass, KnownType, form, in_any_class, in_class_in, known_in}
use Rattle.octseq_dns_data.specs.Typed.{known_types, layout_of, pick}
use Rattle.octseq_dns_data.specs.Local.{TakesWindow}
use Rattle.octseq_dns_data.specs.Rtype as types
use Rattle.octseq_dns_scan.specs.Word.{AreWords}
use Rattle.octseq_format.specs.Canonical.{IsSoundWindow}
use Rattle.octseq_format.specs.Rest.{nothing_left}
use Rattle.octseq_dns_text.proofs.ShownForms.{IsShownForm, Shown, ◌shown_before◌, ◌shown_with◌, a_digest, a_hash}
use Rattle.octseq_dns_text.proofs.ShownForms.{a_key, a_plain_name, a_salt, a_string, a_tag, a_target, a_time}
use Rattle.octseq_dns_text.proofs.ShownForms.{a_type, a_value, four_octets, one_octet, shown_alone, two_octets}
use Rattle.octseq_dns_text.proofs.ShownTails.{a_bitmap, the_params}
use Rattle.octseq_dns_text.proofs.SpacedWords.{IsFeedless, spaced_feedless, spaced_words}
use Rattle.octseq_dns_text.specs.DataShown.{ShowsData}
use Rattle.octseq_dns_text.specs.DataText.{opaque_word}
use Rattle.octseq_dns_text.specs.Layouts.{IsLayoutText, layout_value}
use Rattle.octseq_dns_data.specs.declared.layout.Field.{Field}
use Rattle.octseq_dns_data.specs.declared.layout.Tail.{Tail}

-- what is shown in the layout of a type and a class is data of them
pub data_shown : (rtype class : ℕ) (fields : List Field) (end : Tail) (text octets : List ℕ)
    → layout_of rtype class ≡ Some (layout_value fields end) → Shown (IsLayoutText None fields end) text octets
    → ShowsData rtype class text octets
data_shown rtype class fields end text octets known shown = record {
  words = shown.word ∷ shown.more;
  are = subst (AreWords (shown.word ∷ shown.more)) (sym shown.spelled)
      (spaced_words shown.word shown.more shown.first.0 shown.each);
  one_line = subst IsFeedless (sym shown.spelled)
      (spaced_feedless shown.word shown.more shown.first.1 shown.each);
  is = inr (
    λ after same. let first : shown.word ≡ opaque_word = cc in shown.first.2 first,
    (layout_value fields end, known, shown.is),
  );
}

-- The text of data of a type, which has a number and a form, is that of data.
record IsShownType (number : ℕ) (it : KnownType) : Type 0 where
  shown : (class : ℕ) (w : Window) (found : it.form.Found) (v : Window) → IsSoundWindow w
      → IsClass it.is_of_class_in class
      → it.form.Is w found v → ShowsData number class (it.form.text found) (it.form.octets (it.form.says found))
  fits : (w : Window) (found : it.form.Found) (v : Window) → IsSoundWindow w → it.form.Is w found v
      → it.form.Fits (it.form.says found)
  written : (w : Window) (found : it.form.Found) (v : Window) → IsSoundWindow w → it.form.Is w found v
      → rest w ≡ it.form.octets (it.form.says found) ++ rest v

of_any : {fields : List Field} {end : Tail} (number : ℕ) (f : Form)
    → ((class : ℕ) → layout_of number class ≡ Some (layout_value fields end)) → IsShownForm false fields end f
    → IsShownType number (in_any_class number f)
of_any {fields = fields} {end = end} number f known shows = record {
  shown = λ class w found v sound any is.
      data_shown number class fields end (f.text found) (f.octets (f.says found)) (known class)
      (shows.shown w found v sound is);
  fits = shows.fits;
  written = shows.written refl;
}

of_in : {fields : List Field} {end : Tail} (number : ℕ) (f : Form)
    → layout_of number 1 ≡ Some (layout_value fields end) → IsShownForm false fields end f
    → IsShownType number (in_class_in number f)
of_in {fields = fields} {end = end} number f known shows = record {
  shown = λ class w found v sound in_one is.
      data_shown number class fields end (f.text found) (f.octets (f.says found))
      (ap (layout_of number) in_one ∙ known) (shows.shown w found v sound is);
  fits = shows.fits;
  written = shows.written refl;
}

abbrev AreShown : List KnownType → Type 0
AreShown [] = Unit {0}
AreShown (it ∷ more) = IsShownType it.number it × AreShown more

infixr 3 ◌and_also◌
◌and_also◌ : {A B : Type 0} → A → B → A × B
one and_also more = (one, more)

all_shown : AreShown known_types
unfolding layout_of
all_shown =
    of_any types.hinfo _ (λ class. refl) (a_string shown_before shown_alone a_string)
    and_also of_any types.dname _ (λ class. refl) (shown_alone a_plain_name)
    and_also of_any types.ds _ (λ class. refl)
    (two_octets shown_before one_octet shown_before one_octet shown_before a_digest)
    and_also of_any types.sshfp _ (λ class. refl)
    (one_octet shown_before one_octet shown_before a_digest)
    and_also of_any types.rrsig _ (λ class. refl)
    (a_type shown_before one_octet shown_before one_octet shown_before four_octets
    shown_before a_time shown_before a_time shown_before two_octets shown_before a_plain_name shown_before a_key)
    and_also of_any types.nsec _ (λ class. refl) (a_plain_name shown_with a_bitmap)
    and_also of_any types.dnskey _ (λ class. refl)
    (two_octets shown_before one_octet shown_before one_octet shown_before a_key)
    and_also of_in types.dhcid _ refl a_key
    and_also of_any types.nsec3 _ (λ class. refl)
    (one_octet shown_before one_octet shown_before two_octets shown_before a_salt
    shown_before a_hash shown_with a_bitmap)
    and_also of_any types.nsec3param _ (λ class. refl)
    (one_octet shown_before one_octet shown_before two_octets
    shown_before shown_alone a_salt)
    and_also of_any types.tlsa _ (λ class. refl)
    (one_octet shown_before one_octet shown_before one_octet shown_before a_digest)
    and_also of_any types.smimea _ (λ class. refl)
    (one_octet shown_before one_octet shown_before one_octet shown_before a_digest)
    and_also of_any types.cds _ (λ class. refl)
    (two_octets shown_before one_octet shown_before one_octet shown_before a_digest)
    and_also of_any types.cdnskey _ (λ class. refl)
    (two_octets shown_before one_octet shown_before one_octet shown_before a_key)
    and_also of_any types.openpgpkey _ (λ class. refl) a_key
    and_also of_any types.csync _ (λ class. refl)
    (four_octets shown_before two_octets shown_with a_bitmap)
    and_also of_any types.caa _ (λ class. refl)
    (one_octet shown_before a_tag shown_before a_value)
    and_also of_in types.svcb _ refl (two_octets shown_before a_plain_name shown_with the_params)
    and_also of_in types.https _ refl (two_octets shown_before a_plain_name shown_with the_params)
    and_also of_any types.uri _ (λ class. refl)
    (two_octets shown_before two_octets shown_before a_target)
    and_also tt

-- ---- the type of a number

one_of : (it : KnownType) (rest : KnownType) (n : ℕ) (same : Bool) → (same ≡ true → it.number ≡ n)
    → IsShownType it.number it → IsShownType n rest → IsShownType n (pick same it rest)
one_of it rest n true number one more = subst (λ m. IsShownType m it) (number refl) one
one_of it rest n false number one more = more

none_shown : (n : ℕ) → IsShownType n (in_any_class n no_form)
none_shown n = record {
  shown = λ class w found v sound any is. absurd is;
  fits = λ w found v sound is. absurd is;
  written = λ w found v sound is. absurd is;
}

known_shown : (known : List KnownType) (n : ℕ) → AreShown known → IsShownType n (known_in known n)
known_shown [] n are = none_shown n
known_shown (it ∷ more) n are =
    one_of it (known_in more n) n (nat_eq it.number n) (Decides-eqb it.number n).0 are.0 (known_shown more n are.1)

-- what was found of a type that is read by itself is shown as data
pub local_shown : (rtype class : ℕ) (w : Window) (found : (form rtype).Found) (v : Window) → IsSoundWindow w
    → IsOfClass rtype class → (form rtype).Is w found v
    → ShowsData rtype class ((form rtype).text found) ((form rtype).octets ((form rtype).says found))
local_shown rtype class w found v sound of is =
    (known_shown known_types rtype all_shown).shown class w found v sound of is

-- and has octets
pub local_fits : (rtype : ℕ) (w : Window) (found : (form rtype).Found) (v : Window) → IsSoundWindow w
    → (form rtype).Is w found v → (form rtype).Fits ((form rtype).says found)
local_fits rtype w found v sound is = (known_shown known_types rtype all_shown).fits w found v sound is

-- If it takes its whole window, these are the octets of the window.
pub local_same : (rtype : ℕ) (w : Window) (found : (form rtype).Found) → IsSoundWindow w
    → TakesWindow (form rtype).Is w found
    → (form rtype).octets ((form rtype).says found) ≡ rest w
local_same rtype w found sound is =
    let v = past (left w) w in
    let octets = (form rtype).octets ((form rtype).says found) in
    let all = (known_shown known_types rtype all_shown).written w found v sound is in
    sym (all ∙ ap (λ t. octets ++ t) (nothing_left w v sound.ordered refl) ∙ append-nil octets)

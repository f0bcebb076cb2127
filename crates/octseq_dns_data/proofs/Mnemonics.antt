-- Named numbers, found by their names and by a number after a word.
use Rattle.std.proofs.Common.{◌≡◌, ℕ, zero, suc, ◌<◌, ◌⊎◌, Bool, true, false, ◌&&◌, not, if◌then◌else◌, nat_eq}
use Rattle.std.proofs.Common.{Option, Some, None, IfSome, IfNone, List, [], ◌∷◌, ◌++◌, length, map, take, drop, codes}
use Rattle.std.proofs.Common.{Decides, refl, sym, ◌∙◌, ap, subst, arith, inl, inr}
use Rattle.std.proofs.Math.Seq.{take-append_seam, drop-append_seam}
use Rattle.std.proofs.lemmas.List.{length-map, take-map}
use Rattle.std.proofs.lemmas.Bool.{and_parts, not-true, cases_Bool}
use Rattle.std.proofs.lemmas.Bool.Decides.{Decides-eqb}
use Rattle.std.proofs.lemmas.Fmt.{decimal_is_IsNumeral}
use Rattle.std.proofs.lemmas.Slice.Eq.{bytes_eq-Decides}
use Rattle.std.specs.Char.{to_ascii_lowercase}
use Rattle.std.specs.List.{IsAmong}
use Rattle.std.specs.Fmt.{decimal}
use Rattle.std.specs.Option.{SomeIff, is_some, unwrap_or}
use Rattle.std.specs.Str.{str_eq_ignore_ascii_case, str_to_ascii_lowercase}
use Rattle.std.specs.Str.Parse.{IsNumeral, digits_value}
use Rattle.octseq_dns_data.specs.Mnemonic.{
  Mnemonics,
  name_in,
  name_or,
  number_in,
  SpellsWord,
  IsNameOf,
  IsWordAndNumber,
}
use Rattle.octseq_dns_data.specs.Mnemonic.{IsMnemonicText, class_names}
use Rattle.octseq_dns_data.specs.Rtype.{rtype_names}

-- ---- a name among names

first_among : (x : ℕ × List ℕ) (xs : Mnemonics) → IsAmong (x ∷ xs) x
first_among x xs = (0, (omega arith, refl))

later_among : (x y : ℕ × List ℕ) (xs : Mnemonics) → IsAmong xs y → IsAmong (x ∷ xs) y
later_among x y xs is = (suc is.0, (omega (arith, is.1.0), is.1.1))

first_or_later : (x y : ℕ × List ℕ) (xs : Mnemonics) → IsAmong (x ∷ xs) y → (y ≡ x) ⊎ IsAmong xs y
first_or_later x y xs (zero, (less, is)) = inl is
first_or_later x y xs (suc i, (less, is)) = inr (i, (omega (arith, less), is))

spells : (text name : List ℕ) → Decides (str_eq_ignore_ascii_case text name) (SpellsWord text name)
spells text name = bytes_eq-Decides (str_to_ascii_lowercase text) (str_to_ascii_lowercase name)

-- ---- the number of a name

this_or_later : (named : ℕ × List ℕ) (more : Mnemonics) (text : List ℕ) (n : ℕ) (same : Bool)
    → (same ≡ true → SpellsWord text named.1) → (if same then Some named.0 else number_in more text) ≡ Some n
    → (number_in more text ≡ Some n → IsNameOf more text n) → IsNameOf (named ∷ more) text n
this_or_later named more text n true spelled is later =
    let number : named.0 ≡ n = cc in record {
      name = named.1;
      named = subst (λ m. IsAmong (named ∷ more) (m, named.1)) number (first_among named more);
      spelled = spelled refl;
    }
this_or_later named more text n false spelled is later =
    let further = later is in record {
      name = further.name;
      named = later_among named (n, further.name) more further.named;
      spelled = further.spelled;
    }

pub number_in_some : (names : Mnemonics) (text : List ℕ) (n : ℕ) → number_in names text ≡ Some n → IsNameOf names text n
number_in_some [] text n is = absurd (cc)
number_in_some (named ∷ more) text n is =
    this_or_later named more text n (str_eq_ignore_ascii_case text named.1) (spells text named.1).0 is
    (number_in_some more text n)

none_here : (named : ℕ × List ℕ) (more : Mnemonics) (text : List ℕ) (same : Bool)
    → (if same then Some named.0 else number_in more text) ≡ None → (same ≡ false) × (number_in more text ≡ None)
none_here named more text true is = absurd (cc)
none_here named more text false is = (refl, is)

not_among : (names : Mnemonics) (text name : List ℕ) (n : ℕ) → number_in names text ≡ None → SpellsWord text name
    → IsAmong names (n, name) → ⊥
not_among [] text name n is spelled among = omega (arith, among.1.0)
not_among (named ∷ more) text name n is spelled among =
    let here = none_here named more text (str_eq_ignore_ascii_case text named.1) is in
    elim (first_or_later named (n, name) more among) [
      | inl same ↦
          let reported = (spells text named.1).1
          (subst (λ w. SpellsWord text w) (ap (λ (x : ℕ × List ℕ). x.1) same) spelled) in
          absurd (cc (reported, here.0))
      | inr later ↦ not_among more text name n here.1 spelled later
    ]

pub number_in_none : (names : Mnemonics) (text : List ℕ) → number_in names text ≡ None → (n : ℕ)
    → IsNameOf names text n → ⊥
number_in_none names text is n named = not_among names text named.name n is named.spelled named.named

-- ---- a number after a word

spelled_length : (letters word : List ℕ) → SpellsWord letters word → length letters ≡ length word
spelled_length letters word is =
    let same = ap length is in
    omega (arith, simp length-map at same)

-- the word has as many octets as letters
word_split : (word text letters digits : List ℕ) → text ≡ letters ++ digits → SpellsWord letters word
    → (letters ≡ take (length word) text) × (digits ≡ drop (length word) text)
word_split word text letters digits parts spelled =
    let same = sym (spelled_length letters word spelled) in
    rw (same, parts) (sym (take-append_seam letters digits), sym (drop-append_seam letters digits))

abbrev HasNumber : List ℕ → Option ℕ → Type 0
HasNumber digits r = SomeIff r (IsNumeral 10 digits × (digits_value 10 digits < 65536)) (digits_value 10 digits)

pub number_there : (word text letters digits : List ℕ) (r : Option ℕ) → text ≡ letters ++ digits
    → SpellsWord letters word
    → HasNumber digits r → IfSome r (IsWordAndNumber word text)
number_there word text letters digits None parts spelled is = tt
number_there word text letters digits (Some n) parts spelled is = record {
  letters = letters;
  digits = digits;
  parts = parts;
  spelled = spelled;
  numeral = is.0.0;
  value = sym is.1;
  bits = omega (arith, is);
}

-- ---- either

pub neither_there : (word text : List ℕ) (names : Mnemonics) (r : Option ℕ) → number_in names text ≡ None
    → IfNone r ((n : ℕ) → IsWordAndNumber word text n → ⊥) → IfNone r ((n : ℕ) → IsMnemonicText word names text n → ⊥)
neither_there word text names None none there = λ n reads.
    elim reads [ inl named ↦ number_in_none names text none n named | inr numbered ↦ there n numbered ]
neither_there word text names (Some n) none there = tt

-- ---- what is shown is read back

name_there : (named : ℕ × List ℕ) (more : Mnemonics) (n : ℕ) (name : List ℕ) (same : Bool) → (same ≡ true → named.0 ≡ n)
    → (if same then Some named.1 else name_in more n) ≡ Some name
    → (name_in more n ≡ Some name → IsAmong more (n, name))
    → IsAmong (named ∷ more) (n, name)
name_there named more n name true number is later =
    let spelled : named.1 ≡ name = cc in
    subst (λ x. IsAmong (named ∷ more) (n, x)) spelled
    (subst (λ m. IsAmong (named ∷ more) (m, named.1)) (number refl) (first_among named more))
name_there named more n name false number is later = later_among named (n, name) more (later is)

name_among : (names : Mnemonics) (n : ℕ) (name : List ℕ) → name_in names n ≡ Some name → IsAmong names (n, name)
name_among [] n name is = absurd (cc)
name_among (named ∷ more) n name is =
    name_there named more n name (nat_eq named.0 n) (Decides-eqb named.0 n).0 is (name_among more n name)

shown_or_numbered : (word : List ℕ) (names : Mnemonics) (n : ℕ) → n < 65536 → (found : Option (List ℕ))
    → name_in names n ≡ found → IsMnemonicText word names (unwrap_or found (word ++ decimal n)) n
shown_or_numbered word names n bits (Some name) is =
    inl (record { name = name; named = name_among names n name is; spelled = refl })
shown_or_numbered word names n bits None is =
    let numeral = decimal_is_IsNumeral n (omega (arith, bits)) in
    inr (record {
      letters = word;
      digits = decimal n;
      parts = refl;
      spelled = refl;
      numeral = numeral.0;
      value = numeral.1;
      bits = bits;
    })

-- the text of a number is read as that number
pub reads_shown : (word : List ℕ) (names : Mnemonics) (n : ℕ) → n < 65536
    → IsMnemonicText word names (name_or word names n) n
reads_shown word names n bits = shown_or_numbered word names n bits (name_in names n) refl

-- ---- a text is read as at most one number

-- no two names have the same letters
abbrev distinct : Mnemonics → Bool
distinct [] = true
distinct (named ∷ more) = not (is_some (number_in more named.1)) && distinct more

-- no name begins with the word
abbrev apart : List ℕ → Mnemonics → Bool
apart word [] = true
apart word (named ∷ more) =
    not (str_eq_ignore_ascii_case (take (length word) named.1) word) && apart word more

pub is_unambiguous : List ℕ → Mnemonics → Bool
is_unambiguous word names = distinct names && apart word names

not_some : (found : Option ℕ) → is_some found ≡ false → found ≡ None
not_some None is = refl
not_some (Some n) is = absurd (cc)

among_distinct : (names : Mnemonics) (text name : List ℕ) (n : ℕ) → distinct names ≡ true → SpellsWord text name
    → IsAmong names (n, name) → number_in names text ≡ Some n
among_distinct [] text name n good spelled among = absurd (omega (arith, among.1.0))
among_distinct (named ∷ more) text name n good spelled among =
    let parts = and_parts (not (is_some (number_in more named.1))) (distinct more) good in
    let none = not_some (number_in more named.1) (not-true _ parts.0) in
    elim (first_or_later named (n, name) more among) [
      | inl same ↦
          let reported = (spells text named.1).1
          (subst (λ w. SpellsWord text w) (ap (λ (x : ℕ × List ℕ). x.1) same) spelled) in
          rw reported (ap (λ (x : ℕ × List ℕ). Some x.0) (sym same))
      | inr later ↦ elim (cases_Bool (str_eq_ignore_ascii_case text named.1)) [
        | inl reported ↦ absurd (number_in_none more named.1 none n (record {
          name = name;
          named = later;
          spelled = sym ((spells text named.1).0 reported) ∙ spelled;
        }))
        | inr unreported ↦ rw unreported (among_distinct more text name n parts.1 spelled later)
      ]
    ]

number_of_name : (names : Mnemonics) (text : List ℕ) (n : ℕ) → distinct names ≡ true → IsNameOf names text n
    → number_in names text ≡ Some n
number_of_name names text n good named = among_distinct names text named.name n good named.spelled named.named

-- a name that begins with the letters of the word
begins_with : (word text name letters digits : List ℕ) → SpellsWord text name → text ≡ letters ++ digits
    → SpellsWord letters word → SpellsWord (take (length word) name) word
begins_with word text name letters digits named parts spelled =
    let front : take (length word) text ≡ letters = sym (word_split word text letters digits parts spelled).0 in
    sym (take-map to_ascii_lowercase (length word) name) ∙ ap (take (length word)) (sym named)
    ∙ take-map to_ascii_lowercase (length word) text ∙ ap (map to_ascii_lowercase) front ∙ spelled

no_name_begins : (word : List ℕ) (names : Mnemonics) (name : List ℕ) (n : ℕ) → apart word names ≡ true
    → IsAmong names (n, name) → SpellsWord (take (length word) name) word → ⊥
no_name_begins word [] name n good among spelled = omega (arith, among.1.0)
no_name_begins word (named ∷ more) name n good among spelled =
    let parts = and_parts (not (str_eq_ignore_ascii_case (take (length word) named.1) word)) (apart word more) good in
    elim (first_or_later named (n, name) more among) [
      | inl same ↦
          let begins = subst (λ w. SpellsWord (take (length word) w) word)
          (ap (λ (x : ℕ × List ℕ). x.1) same) spelled in
          let reported = (spells (take (length word) named.1) word).1 begins in
          let unreported = not-true _ parts.0 in
          absurd (cc (reported, unreported))
      | inr later ↦ no_name_begins word more name n parts.1 later spelled
    ]

never_both : (word : List ℕ) (names : Mnemonics) (text : List ℕ) (a b : ℕ) → apart word names ≡ true
    → IsNameOf names text a → IsWordAndNumber word text b → ⊥
never_both word names text a b good named numbered =
    no_name_begins word names named.name a good named.named
    (begins_with word text named.name numbered.letters numbered.digits named.spelled numbered.parts numbered.spelled)

one_after : (word text : List ℕ) (a b : ℕ) → IsWordAndNumber word text a → IsWordAndNumber word text b → a ≡ b
one_after word text a b one other =
    let here = (word_split word text one.letters one.digits one.parts one.spelled).1 in
    let there = (word_split word text other.letters other.digits other.parts other.spelled).1 in
    sym one.value ∙ ap (digits_value 10) (here ∙ sym there) ∙ other.value

pub one_number : (word : List ℕ) (names : Mnemonics) → is_unambiguous word names ≡ true → (text : List ℕ) (a b : ℕ)
    → IsMnemonicText word names text a → IsMnemonicText word names text b → a ≡ b
unfolding is_unambiguous
one_number word names good text a b one other =
    let parts = and_parts (distinct names) (apart word names) good in
    elim one [
      | inl named ↦ elim other [
        | inl again ↦
            let here = number_of_name names text a parts.0 named in
            let there = number_of_name names text b parts.0 again in cc
        | inr numbered ↦ absurd (never_both word names text a b parts.1 named numbered)
      ]
      | inr numbered ↦ elim other [
        | inl named ↦ absurd (never_both word names text b a parts.1 named numbered)
        | inr again ↦ one_after word text a b numbered again
      ]
    ]

-- ---- types and classes

pub rtypes_unambiguous : is_unambiguous (codes "TYPE") rtype_names ≡ true
unfolding is_unambiguous
rtypes_unambiguous = refl

pub classes_unambiguous : is_unambiguous (codes "CLASS") class_names ≡ true
unfolding is_unambiguous
classes_unambiguous = refl

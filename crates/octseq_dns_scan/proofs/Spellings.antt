-- A string is read octet by octet, and a word spells at most one.
use Rattle.std.proofs.Common.{◌≡◌, ℕ, ◌+◌, ◌/◌, ◌%◌, ◌<◌, ◌≤◌, Bool, true, false, List, [], ◌∷◌, ◌++◌, length}
use Rattle.std.proofs.Common.{refl, sym, ap, ◌∙◌, subst, append_assoc, arith, rules}
use Rattle.std.proofs.Math.Bool.{true≢false}
use Rattle.std.proofs.lemmas.List.{length-append, append-nil, append_cancel_right}
use Rattle.std.specs.Char.{is_ascii_digit}
use Rattle.octseq_dns_scan.specs.Spelled.{is_special_in_string, SpellsOctetBut, SpellsOctets, SpellsString}
use Rattle.octseq_dns_scan.proofs.Mades.{head, tail}

-- ---- octets

digit_is : (n : ℕ) → n < 256 → is_ascii_digit (48 + n / 100) ≡ true
digit_is n few = search rules

numbers : (a b : ℕ) → 48 + a / 100 ≡ 48 + b / 100 → 48 + a / 10 % 10 ≡ 48 + b / 10 % 10 → 48 + a % 10 ≡ 48 + b % 10
    → a ≡ b
numbers a b first second third = omega (arith, first, second, third)

pub backslash : (quoted : Bool) → is_special_in_string quoted 92 ≡ true
backslash true = refl
backslash false = refl

quote : (quoted : Bool) → is_special_in_string quoted 34 ≡ true
quote true = refl
quote false = refl

-- a spelling of an octet determines it, and what follows it
octet_once : (special : ℕ → Bool) → special 92 ≡ true → (a b : ℕ) (s t xs ys : List ℕ) → SpellsOctetBut special a s
    → SpellsOctetBut special b t → s ++ xs ≡ t ++ ys → (a ≡ b) × (xs ≡ ys)
octet_once special is a b s t xs ys (SpellsOctetBut.plain bare) (SpellsOctetBut.plain other_bare) same =
    (head same, tail same)
octet_once special is a b s t xs ys (SpellsOctetBut.plain bare) (SpellsOctetBut.escaped letter) same =
    absurd (true≢false (sym is ∙ ap special (sym (head same)) ∙ bare))
octet_once special is a b s t xs ys (SpellsOctetBut.plain bare) (SpellsOctetBut.numbered few) same =
    absurd (true≢false (sym is ∙ ap special (sym (head same)) ∙ bare))
octet_once special is a b s t xs ys (SpellsOctetBut.escaped letter) (SpellsOctetBut.plain bare) same =
    absurd (true≢false (sym is ∙ ap special (head same) ∙ bare))
octet_once special is a b s t xs ys (SpellsOctetBut.escaped letter) (SpellsOctetBut.escaped other_letter) same =
    (head (tail same), tail (tail same))
octet_once special is a b s t xs ys (SpellsOctetBut.escaped letter) (SpellsOctetBut.numbered few) same =
    absurd (true≢false (sym (digit_is b few) ∙ ap is_ascii_digit (sym (head (tail same))) ∙ letter))
octet_once special is a b s t xs ys (SpellsOctetBut.numbered few) (SpellsOctetBut.plain bare) same =
    absurd (true≢false (sym is ∙ ap special (head same) ∙ bare))
octet_once special is a b s t xs ys (SpellsOctetBut.numbered few) (SpellsOctetBut.escaped letter) same =
    absurd (true≢false (sym (digit_is a few) ∙ ap is_ascii_digit (head (tail same)) ∙ letter))
octet_once special is a b s t xs ys (SpellsOctetBut.numbered few) (SpellsOctetBut.numbered other_few) same =
    let second = tail same in let third = tail second in let fourth = tail third in
    (numbers a b (head second) (head third) (head fourth), tail fourth)

-- a spelling of an octet isn't empty
pub octet_some : (special : ℕ → Bool) (a : ℕ) (s : List ℕ) → SpellsOctetBut special a s → 1 ≤ length s
octet_some special a s (SpellsOctetBut.plain bare) = omega arith
octet_some special a s (SpellsOctetBut.escaped letter) = omega arith
octet_some special a s (SpellsOctetBut.numbered few) = omega arith

-- and begins with no quotation mark
octet_apart : (special : ℕ → Bool) → special 34 ≡ true → (a : ℕ) (s xs ys : List ℕ) → SpellsOctetBut special a s
    → ¬ (s ++ xs ≡ 34 ∷ ys)
octet_apart special is a s xs ys (SpellsOctetBut.plain bare) same =
    true≢false (sym is ∙ ap special (sym (head same)) ∙ bare)
octet_apart special is a s xs ys (SpellsOctetBut.escaped letter) same = let e = head same in absurd (omega (arith, e))
octet_apart special is a s xs ys (SpellsOctetBut.numbered few) same = let e = head same in absurd (omega (arith, e))

-- ---- octets, one after another

-- what was read, followed by what is ahead, is spelled by the text, and nothing else is
pub record Reads (special : ℕ → Bool) (done text ahead : List ℕ) : Type 0 where
  pub to : (octets : List ℕ) → SpellsOctets special octets ahead → SpellsOctets special (done ++ octets) text
  pub from : (octets : List ℕ) → SpellsOctets special octets text
      → (more : List ℕ) × (octets ≡ done ++ more) × SpellsOctets special more ahead

pub reads_none : (special : ℕ → Bool) (text : List ℕ) → Reads special [] text text
reads_none special text = record { to = λ octets spells. spells; from = λ octets spells. (octets, refl, spells) }

-- the first octet of a text is the one that it begins with
octet_first : (special : ℕ → Bool) → special 92 ≡ true → (octet : ℕ) (octets text first rest : List ℕ)
    → text ≡ first ++ rest → SpellsOctetBut special octet first → SpellsOctets special octets text
    → (more : List ℕ) × (octets ≡ octet ∷ more) × SpellsOctets special more rest
octet_first special is octet [] text first rest same one spells =
    let some = octet_some special octet first one in
    let size = ap length (sym same ∙ spells) in
    let all = length-append first rest in
    absurd (omega (arith, some, size, all))
octet_first special is octet (other ∷ octets) text first rest same one spells =
    let both = octet_once special is octet other first spells.0 rest spells.1 one spells.3 (sym same ∙ spells.2) in
    (octets, ap (λ o. o ∷ octets) (sym both.0), subst (SpellsOctets special octets) (sym both.1) spells.4)

-- one more octet
pub reads_more : (special : ℕ → Bool) → special 92 ≡ true → (done text ahead first rest : List ℕ) (octet : ℕ)
    → Reads special done text ahead → ahead ≡ first ++ rest → SpellsOctetBut special octet first
    → Reads special (done ++ octet ∷ []) text rest
reads_more special is done text ahead first rest octet so_far same one = record {
  to = λ octets spells.
      subst (λ l. SpellsOctets special l text) (sym (append_assoc done (octet ∷ []) octets))
      (so_far.to (octet ∷ octets) (first, rest, same, one, spells));
  from = λ octets spells.
      let before = so_far.from octets spells in
      let found = octet_first special is octet before.0 ahead first rest same one before.2 in (
        found.0,
        before.1 ∙ ap (λ l. done ++ l) found.1 ∙ sym (append_assoc done (octet ∷ []) found.0),
        found.2,
      );
}

-- at the end of the text all is read
pub reads_all : (special : ℕ → Bool) (done text ahead : List ℕ) → Reads special done text ahead → ahead ≡ []
    → SpellsOctets special done text
reads_all special done text ahead so_far end =
    subst (λ l. SpellsOctets special l text) (append-nil done) (so_far.to [] end)

not_ahead : (special : ℕ → Bool) (ahead more : List ℕ) → ¬ (ahead ≡ [])
    → ((octet : ℕ) (first rest : List ℕ) → ahead ≡ first ++ rest → ¬ SpellsOctetBut special octet first)
    → ¬ SpellsOctets special more ahead
not_ahead special ahead [] some none spells = some spells
not_ahead special ahead (octet ∷ more) some none spells = none octet spells.0 spells.1 spells.2 spells.3

-- where no octet comes, nothing is spelled
pub reads_fails : (special : ℕ → Bool) (done text ahead : List ℕ) → Reads special done text ahead → ¬ (ahead ≡ [])
    → ((octet : ℕ) (first rest : List ℕ) → ahead ≡ first ++ rest → ¬ SpellsOctetBut special octet first)
    → (octets : List ℕ) → ¬ SpellsOctets special octets text
reads_fails special done text ahead so_far some none octets spells =
    let left = so_far.from octets spells in not_ahead special ahead left.0 some none left.2

not_empty : (special : ℕ → Bool) (octet : ℕ) (octets text : List ℕ) → text ≡ []
    → ¬ SpellsOctets special (octet ∷ octets) text
not_empty special octet octets text none spells =
    let some = octet_some special octet spells.0 spells.3 in
    let size = ap length (sym spells.2 ∙ none) in
    let all = length-append spells.0 spells.1 in
    absurd (omega (arith, some, size, all))

-- a text spells octets in one way
pub octets_once : (special : ℕ → Bool) → special 92 ≡ true → (octets others text : List ℕ)
    → SpellsOctets special octets text → SpellsOctets special others text → octets ≡ others
octets_once special is [] [] text one two = refl
octets_once special is [] (other ∷ others) text one two =
    absurd (not_empty special other others text one two)
octets_once special is (octet ∷ octets) [] text one two =
    absurd (not_empty special octet octets text two one)
octets_once special is (octet ∷ octets) (other ∷ others) text one two =
    let both = octet_once special is octet other one.0 two.0 one.1 two.1 one.3 two.3 (sym one.2 ∙ two.2) in
    let more = octets_once special is octets others two.1 (subst (SpellsOctets special octets) both.1 one.4) two.4 in
    ap (λ o. o ∷ octets) both.0 ∙ ap (λ l. other ∷ l) more

-- ---- strings

no_quote : (special : ℕ → Bool) → special 34 ≡ true → (octets ys : List ℕ) → ¬ SpellsOctets special octets (34 ∷ ys)
no_quote special is [] ys spells = let e = ap length spells in absurd (omega (arith, e))
no_quote special is (octet ∷ octets) ys spells =
    octet_apart special is octet spells.0 spells.1 ys spells.3 (sym spells.2)

-- what is between quotation marks spells the string
pub inside_spelled : (word inside : List ℕ) → word ≡ 34 ∷ inside ++ 34 ∷ [] → (octets : List ℕ)
    → SpellsString octets word → SpellsOctets (is_special_in_string true) octets inside
inside_spelled word inside here octets (SpellsString.quoted other same spells) =
    let both = append_cancel_right other inside (34 ∷ []) (tail (sym same ∙ here)) in
    subst (SpellsOctets (is_special_in_string true) octets) both spells
inside_spelled word inside here octets (SpellsString.bare some spells) =
    absurd (no_quote (is_special_in_string false) refl octets (inside ++ 34 ∷ [])
    (subst (SpellsOctets (is_special_in_string false) octets) here spells))

-- a word spells one string at most
pub string_once : (octets others word : List ℕ) → SpellsString octets word → SpellsString others word → octets ≡ others
string_once octets others word (SpellsString.quoted inside same spells) two =
    octets_once (is_special_in_string true) refl octets others inside spells
    (inside_spelled word inside same others two)
string_once octets others word (SpellsString.bare some spells) (SpellsString.quoted inside same other_spells) =
    octets_once (is_special_in_string true) refl octets others inside
    (inside_spelled word inside same octets (SpellsString.bare some spells)) other_spells
string_once octets others word (SpellsString.bare some spells) (SpellsString.bare other_some other_spells) =
    octets_once (is_special_in_string false) refl octets others word spells other_spells

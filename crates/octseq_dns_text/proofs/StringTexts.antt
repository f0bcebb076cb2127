-- Strings, one word each.
use Rattle.std.proofs.Common.{◌≡◌, ℕ, ◌+◌, ◌≤◌, ◌<◌, List, [], ◌∷◌, ◌++◌, length, refl, sym, ap, ◌∙◌}
use Rattle.std.proofs.Common.{subst, append_assoc, length-append, arith}
use Rattle.std.proofs.lemmas.List.{append-nil}
use Rattle.octseq_dns_scan.proofs.Spellings.{string_once}
use Rattle.octseq_dns_scan.proofs.Taken.{word_once}
use Rattle.octseq_dns_scan.specs.Spelled.{is_special_in_string, SpellsOctetBut, SpellsString}
use Rattle.octseq_dns_scan.specs.Word.{TakesWord}
use Rattle.octseq_dns_text.proofs.ReadTexts.{takes_some}
use Rattle.octseq_dns_text.proofs.SomeTexts.{fault_first}
use Rattle.octseq_dns_text.specs.Scans.{Goes, AreSome, IsWordFault}
use Rattle.octseq_dns_text.specs.Tails.{IsLongString, AreStrings}
use Rattle.octseq_dns_text.specs.Words.{IsStringWord}

-- the letter a spells itself
spells_a : SpellsString (97 ∷ []) (97 ∷ [])
spells_a = SpellsString.bare (omega arith) (97 ∷ [], [], refl, SpellsOctetBut.plain refl, refl)

pub string_a : IsStringWord (97 ∷ []) (1 ∷ 97 ∷ [])
string_a = (97 ∷ [], spells_a, omega arith, refl)

-- ---- one string

pub value_goes : (least : ℕ) → least ≤ 1 → Goes (IsLongString least) []
value_goes least few = ((97 ∷ []) ∷ [], 97 ∷ [], (97 ∷ [], refl, spells_a, few))

value_stops : (least : ℕ) (word : List ℕ) → ((octets : List ℕ) → SpellsString octets word → ¬ (least ≤ length octets))
    → ¬ Goes (IsLongString least) (word ∷ [])
value_stops least word none (more, octets, (other, same, spells, long)) =
    let first : other ≡ word = cc in
    none octets (subst (SpellsString octets) first spells) long

pub value_first : (least : ℕ) (word ahead rest : List ℕ) (start : ℕ) → least ≤ 1 → TakesWord word ahead rest
    → ((octets : List ℕ) → SpellsString octets word → ¬ (least ≤ length octets))
    → IsWordFault (IsLongString least) ahead start start
value_first least word ahead rest start few taken none = fault_first (IsLongString least) ahead start
    (value_goes least few)
    (λ other left takes. subst (λ w. ¬ Goes (IsLongString least) (w ∷ []))
    (sym (word_once other word ahead left rest takes taken).0) (value_stops least word none))
    (λ same. absurd (takes_some word ahead rest taken same))

pub value_none : (least : ℕ) (ahead : List ℕ) (start : ℕ) → least ≤ 1
    → ((word rest : List ℕ) → ¬ TakesWord word ahead rest) → IsWordFault (IsLongString least) ahead start start
value_none least ahead start few none = fault_first (IsLongString least) ahead start (value_goes least few)
    (λ other left takes. absurd (none other left takes))
    (λ same octets (word, never, spells, long). absurd (cc))

pub value_short : (least len : ℕ) (word octets other : List ℕ) → len < least → SpellsString octets word
    → length octets ≡ len → SpellsString other word → ¬ (least ≤ length other)
value_short least len word octets other few spells long also enough =
    let same = ap length (string_once octets other word spells also) in
    absurd (omega (arith, same, few, long, enough))

pub value_long : (least len : ℕ) (word octets other : List ℕ) → least ≤ len → SpellsString octets word
    → length octets ≡ len → SpellsString other word → least ≤ length other
value_long least len word octets other enough spells long also =
    let same = ap length (string_once octets other word spells also) in
    omega (arith, same, long, enough)

pub value_after : (least : ℕ) (word octets ahead rest : List ℕ) (start offset : ℕ) → TakesWord word ahead rest
    → offset + length rest ≡ start + length ahead → SpellsString octets word → least ≤ length octets
    → ¬ (rest ≡ []) → IsWordFault (IsLongString least) ahead start offset
value_after least word octets ahead rest start offset taken same spells long some = record {
  front = word ∷ [];
  rest = rest;
  begins = (rest, taken, refl);
  place = same;
  goes = ([], octets, (word, refl, spells, long));
  stops = λ next left takes (more, all, (other, same_words, also, enough)). absurd (cc);
  ends = λ none. absurd (some none);
}

-- ---- strings

pub strings_word : (front : List (List ℕ)) (made word octets : List ℕ) → AreStrings front made
    → IsStringWord word octets → AreStrings (front ++ word ∷ []) (made ++ octets)
strings_word [] made word octets none is =
    (octets, [], is, refl, ap (λ front. front ++ octets) none ∙ sym (append-nil octets))
strings_word (first ∷ front) made word octets (head, rest, is_first, are, same) is = (
  head,
  rest ++ octets,
  is_first,
  strings_word front rest word octets are is,
  ap (λ all. all ++ octets) same ∙ append_assoc head rest octets,
)

stops : (front : List (List ℕ)) (word : List ℕ) (more : List (List ℕ)) (octets : List ℕ)
    → ((one : List ℕ) → ¬ IsStringWord word one) → ¬ AreStrings ((front ++ word ∷ []) ++ more) octets
stops [] word more octets none (head, rest, is, are, same) = none head is
stops (first ∷ front) word more octets none (head, rest, is, are, same) = stops front word more rest none are

pub strings_stop : (front : List (List ℕ)) (word : List ℕ) → ((one : List ℕ) → ¬ IsStringWord word one)
    → ¬ Goes AreStrings (front ++ word ∷ [])
strings_stop front word none (more, octets, are) = stops front word more octets none are

pub strings_go : (front : List (List ℕ)) (made : List ℕ) → AreStrings front made → Goes AreStrings front
strings_go front made are = ([], made, subst (λ words. AreStrings words made) (sym (append-nil front)) are)

pub some_strings_go : Goes (AreSome AreStrings) []
some_strings_go =
    ((97 ∷ []) ∷ [], 1 ∷ 97 ∷ [], (omega arith, strings_word [] [] (97 ∷ []) (1 ∷ 97 ∷ []) refl string_a))

-- A word that spells a string is a word, and the printed text of a string spells it.
use Rattle.std.proofs.Common.{◌≡◌, ℕ, ◌+◌, ◌/◌, ◌%◌, ◌<◌, ◌==◌, Bool, true, false, ◌||◌, inl, inr, List, [], ◌∷◌, ◌++◌}
use Rattle.std.proofs.Common.{if◌then◌else◌, length, refl, sym, ap, subst, arith, rules}
use Rattle.std.proofs.lemmas.List.{append-nil}
use Rattle.std.proofs.lemmas.List.Elements.{recursion_from_All}
use Rattle.std.specs.Char.{is_ascii_digit, is_ascii_graphic}
use Rattle.std.specs.List.{All, AllByRecursion, flat_map}
use Rattle.octseq.specs.OctetsText.{is_string_quoted, string_octet_text, string_text, three_digits}
use Rattle.octseq_dns_scan.specs.Made.{IsMade}
use Rattle.octseq_dns_scan.specs.Spelled.{is_special_in_string, SpellsOctetBut, SpellsOctets, SpellsString}
use Rattle.octseq_dns_scan.specs.Word.{is_special, IsPieceBut, IsWordPiece, IsWordPart, IsWord}
use Rattle.octseq_dns_scan.proofs.Mades.{made_none, made_first, made_append}

-- ---- what texts are made of

all_weaker : (P Q : List ℕ → Type 0) → ((p : List ℕ) → P p → Q p) → (pieces : List (List ℕ)) → AllByRecursion P pieces
    → AllByRecursion Q pieces
all_weaker P Q more [] are = tt
all_weaker P Q more (p ∷ pieces) are = (more p are.0, all_weaker P Q more pieces are.1)

-- ---- a word that spells a string

-- a digit is a piece, and what is a piece here is one there
record Wider (narrow wide : ℕ → Bool) : Type 0 where
  bare : (octet : ℕ) → narrow octet ≡ false → wide octet ≡ false
  digit : (n : ℕ) → n < 10 → wide (48 + n) ≡ false

octet_made : (narrow wide : ℕ → Bool) → Wider narrow wide → (octet : ℕ) (text : List ℕ)
    → SpellsOctetBut narrow octet text → IsMade (IsPieceBut wide) text
octet_made narrow wide wider octet text (SpellsOctetBut.plain bare) =
    made_first (IsPieceBut wide) text [] (IsPieceBut.plain (wider.bare octet bare)) (made_none (IsPieceBut wide))
octet_made narrow wide wider octet text (SpellsOctetBut.escaped letter) =
    made_first (IsPieceBut wide) text [] IsPieceBut.escaped (made_none (IsPieceBut wide))
octet_made narrow wide wider octet text (SpellsOctetBut.numbered few) =
    let P = IsPieceBut wide in
    let first = (48 + octet / 100) in
    let second = (48 + octet / 10 % 10) in
    let third = (48 + octet % 10) in
    made_first P (92 ∷ first ∷ []) (second ∷ third ∷ []) IsPieceBut.escaped
    (made_first P (second ∷ []) (third ∷ []) (IsPieceBut.plain (wider.digit (octet / 10 % 10) (omega arith)))
    (made_first P (third ∷ []) [] (IsPieceBut.plain (wider.digit (octet % 10) (omega arith))) (made_none P)))

octets_made : (narrow wide : ℕ → Bool) → Wider narrow wide → (octets text : List ℕ) → SpellsOctets narrow octets text
    → IsMade (IsPieceBut wide) text
octets_made narrow wide wider [] text spells =
    subst (IsMade (IsPieceBut wide)) (sym spells) (made_none (IsPieceBut wide))
octets_made narrow wide wider (octet ∷ octets) text spells =
    subst (IsMade (IsPieceBut wide)) (sym spells.2)
    (made_append (IsPieceBut wide) spells.0 spells.1 (octet_made narrow wide wider octet spells.0 spells.3)
    (octets_made narrow wide wider octets spells.1 spells.4))

quoted_wider : Wider (is_special_in_string true) (is_special_in_string true)
quoted_wider = record { bare = λ octet bare. bare; digit = λ n few. search rules }

bare_wider : Wider (is_special_in_string false) is_special
bare_wider = record { bare = λ octet bare. search rules; digit = λ n few. search rules }

pub string_word : (octets word : List ℕ) → SpellsString octets word → IsWord word
string_word octets word (SpellsString.quoted inside same spells) =
    let made = octets_made (is_special_in_string true) (is_special_in_string true) quoted_wider octets inside spells in
    let size = ap length same in (
      omega (arith, size),
      subst (IsMade IsWordPart) (append-nil word)
          (made_first IsWordPart word [] (inr (inside, made, same)) (made_none IsWordPart)),
    )
string_word octets word (SpellsString.bare some spells) =
    let made = octets_made (is_special_in_string false) is_special bare_wider octets word spells in
    (some, (made.0, all_weaker IsWordPiece IsWordPart (λ p one. inl one) made.0 made.1, made.2))

-- ---- what is printed

letters : (octet : ℕ) → is_string_quoted octet ≡ true → is_ascii_digit octet ≡ false
letters octet is = search rules

by_case : (octet : ℕ) (a b : Bool) → is_string_quoted octet ≡ a → octet < 256
    → SpellsOctetBut (is_special_in_string true) octet
    (if a then 92 ∷ octet ∷ [] else (if b then octet ∷ [] else 92 ∷ three_digits octet))
by_case octet true b is few = SpellsOctetBut.escaped (letters octet is)
by_case octet false true is few = SpellsOctetBut.plain is
by_case octet false false is few = SpellsOctetBut.numbered few

octets_spelled : (octets : List ℕ) → AllByRecursion (λ octet. octet < 256) octets
    → SpellsOctets (is_special_in_string true) octets (flat_map string_octet_text octets)
octets_spelled [] are = refl
octets_spelled (octet ∷ octets) are = (
  string_octet_text octet,
  flat_map string_octet_text octets,
  refl,
  by_case octet (is_string_quoted octet) (octet == 32 || is_ascii_graphic octet) refl are.0,
  octets_spelled octets are.1,
)

-- the printed text of a string spells it
pub string_spelled : (octets : List ℕ) → All (λ octet. octet < 256) octets → SpellsString octets (string_text octets)
string_spelled octets are =
    SpellsString.quoted (flat_map string_octet_text octets) refl
    (octets_spelled octets (recursion_from_All (λ octet. octet < 256) octets are))

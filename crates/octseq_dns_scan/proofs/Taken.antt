-- A word is taken from the front of a text in one way.
use Rattle.std.proofs.Common.{◌≡◌, ℕ, ◌-◌, ◌≤◌, true, false, inl, List, [], ◌∷◌, ◌++◌, length}
use Rattle.std.proofs.Common.{refl, sym, ap, ◌∙◌, subst, arith}
use Rattle.std.proofs.Math.Bool.{true≢false}
use Rattle.std.proofs.lemmas.List.{length-append, append-nil}
use Rattle.std.proofs.lemmas.List.Elements.{recursion_from_All}
use Rattle.std.specs.List.{All, AllByRecursion}
use Rattle.octseq_dns_scan.specs.Made.{IsMade, Leaves}
use Rattle.octseq_dns_scan.specs.Word.{is_blank, is_special, IsPieceBut, IsWordPart, IsWord, EndsWord, BeginsNoBlank}
use Rattle.octseq_dns_scan.specs.Word.{TakesWord, AreWords}
use Rattle.octseq_dns_scan.proofs.Mades.{tail, made_none, made_first, made_append, made_once}
use Rattle.octseq_dns_scan.proofs.WordCodes.{part_code}

-- what is left after the parts of a word that is taken
taken_leaves : (word text rest : List ℕ) → (taken : TakesWord word text rest) → Leaves IsWordPart EndsWord text taken.1
taken_leaves word text rest taken = (word, taken.2.1, taken.3, taken.4)

pub not_taken : (text : List ℕ) → ((rest : List ℕ) → ¬ Leaves IsWordPart EndsWord text rest) → (word rest : List ℕ)
    → ¬ TakesWord word text rest
not_taken text none word rest taken = none taken.1 (taken_leaves word text rest taken)

-- if all is left after the parts that were found, there are none, and no word
pub none_taken : (text left : List ℕ) → Leaves IsWordPart EndsWord text left → length text - length left ≡ 0
    → (word rest : List ℕ) → ¬ TakesWord word text rest
none_taken text left found all word rest taken =
    let both = made_once IsWordPart EndsWord part_code word found.0 taken.1 left taken.2.1 found.1 taken.4 found.3
    (sym taken.3 ∙ found.2) in
    let size = ap length found.2 ∙ length-append found.0 left in
    let same = ap length both.0 in
    let some = taken.2.0 in
    absurd (omega (arith, size, same, all, some))

-- ---- blanks

blanks_once : (blanks others rest left : List ℕ) → AllByRecursion (λ octet. is_blank octet ≡ true) blanks
    → AllByRecursion (λ octet. is_blank octet ≡ true) others → BeginsNoBlank rest → BeginsNoBlank left
    → blanks ++ rest ≡ others ++ left → rest ≡ left
blanks_once [] [] rest left are others_are ends others_end same = same
blanks_once [] (b ∷ others) rest left are others_are ends others_end same =
    let bare : BeginsNoBlank (b ∷ others ++ left) = subst BeginsNoBlank same ends in
    absurd (true≢false (sym others_are.0 ∙ bare))
blanks_once (a ∷ blanks) [] rest left are others_are ends others_end same =
    let bare : BeginsNoBlank (a ∷ blanks ++ rest) = subst BeginsNoBlank (sym same) others_end in
    absurd (true≢false (sym are.0 ∙ bare))
blanks_once (a ∷ blanks) (b ∷ others) rest left are others_are ends others_end same =
    blanks_once blanks others rest left are.1 others_are.1 ends others_end (tail same)

-- ---- words

-- a word is taken in one way
pub word_once : (word other text rest left : List ℕ) → TakesWord word text rest → TakesWord other text left
    → (word ≡ other) × (rest ≡ left)
word_once word other text rest left one two =
    let both = made_once IsWordPart EndsWord part_code word other one.1 two.1 one.2.1 two.2.1 one.4 two.4
    (sym one.3 ∙ two.3) in
    (both.0, blanks_once one.0 two.0 rest left one.5.0 two.5.0 one.5.2 two.5.2 (sym one.5.1 ∙ both.1 ∙ two.5.1))

-- a word has an octet, so a text with words isn't empty
words_some : (word text rest : List ℕ) → TakesWord word text rest → ¬ (text ≡ [])
words_some word text rest taken none =
    let size = ap length (sym none ∙ taken.3) ∙ length-append word taken.1 in
    let some = taken.2.0 in
    omega (arith, size, some)

-- a text splits into words in one way
pub words_once : (words others : List (List ℕ)) (text : List ℕ) → AreWords words text → AreWords others text
    → words ≡ others
words_once [] [] text one two = refl
words_once [] (other ∷ others) text one two = absurd (words_some other text two.0 two.1 one)
words_once (word ∷ words) [] text one two = absurd (words_some word text one.0 one.1 two)
words_once (word ∷ words) (other ∷ others) text one two =
    let first = word_once word other text one.0 two.0 one.1 two.1 in
    let more = words_once words others two.0 (subst (AreWords words) first.1 one.2) two.2 in
    ap (λ w. w ∷ words) first.0 ∙ ap (λ ws. other ∷ ws) more

-- a word is taken before a space, and at the end
pub taken_space : (word rest : List ℕ) → IsWord word → BeginsNoBlank rest → TakesWord word (word ++ 32 ∷ rest) rest
taken_space word rest is begins = (32 ∷ [], 32 ∷ rest, is, refl, refl, ((refl, tt), refl, begins))

pub taken_end : (word : List ℕ) → IsWord word → TakesWord word word []
taken_end word is = ([], [], is, sym (append-nil word), tt, (tt, refl, tt))

-- octets that stand for themselves are a word
plain_made : (octets : List ℕ) → AllByRecursion (λ octet. is_special octet ≡ false) octets → IsMade IsWordPart octets
plain_made [] are = made_none IsWordPart
plain_made (octet ∷ octets) are =
    made_first IsWordPart (octet ∷ []) octets (inl (IsPieceBut.plain are.0)) (plain_made octets are.1)

pub plain_word : (octets : List ℕ) → 1 ≤ length octets → All (λ octet. is_special octet ≡ false) octets → IsWord octets
plain_word octets some are =
    (some, plain_made octets (recursion_from_All (λ octet. is_special octet ≡ false) octets are))

-- and so are a backslash and an octet, and two words
pub escaped_word : (octet : ℕ) → IsWord (92 ∷ octet ∷ [])
escaped_word octet =
    (omega arith, made_first IsWordPart (92 ∷ octet ∷ []) [] (inl IsPieceBut.escaped) (made_none IsWordPart))

pub joined_word : (word other : List ℕ) → IsWord word → IsWord other → IsWord (word ++ other)
joined_word word other one two =
    let size = length-append word other in
    let some = one.0 in
    (omega (arith, size, some), made_append IsWordPart word other one.1 two.1)

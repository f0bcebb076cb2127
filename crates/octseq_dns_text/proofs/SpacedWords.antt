-- Words with a space between them, and octets that stand for themselves in a word.
use Rattle.std.proofs.Common.{◌≡◌, ◌≢◌, ℕ, ◌≤◌, false, inl, inr, List, [], ◌∷◌, ◌++◌, length, map, refl, sym}
use Rattle.std.proofs.Common.{ap, subst, append_assoc, arith, rules}
use Rattle.std.proofs.Math.Bool.{true≢false}
use Rattle.std.proofs.lemmas.Bool.{ne_eqb}
use Rattle.std.proofs.lemmas.List.{append-nil}
use Rattle.std.proofs.lemmas.List.Elements.{All-from_recursion}
use Rattle.std.specs.List.{AllByRecursion, concat, flat_map}
use Rattle.octseq_dns_scan.specs.Word.{is_blank, is_special, AreWords, BeginsNoBlank, IsWordPart, IsPieceBut, IsWord}
use Rattle.octseq_dns_scan.specs.Word.{TakesWord}
use Rattle.octseq_dns_scan.proofs.Taken.{plain_word, taken_end, taken_space}
use Rattle.octseq_dns_text.specs.DataText.{opaque_word}

-- ---- words after a space each

abbrev pub spaced : List (List ℕ) → List ℕ
spaced [] = []
spaced (word ∷ words) = 32 ∷ word ++ spaced words

pub spaced_map : {X : Type 0} (text : X → List ℕ) (xs : List X) → flat_map (λ x. 32 ∷ text x) xs ≡ spaced (map text xs)
spaced_map text [] = refl
spaced_map text (x ∷ xs) = ap (λ more. 32 ∷ text x ++ more) (spaced_map text xs)

-- a word begins with no blank
part_begins : (part rest : List ℕ) → IsWordPart part → BeginsNoBlank (part ++ rest)
part_begins part rest (inl (IsPieceBut.plain {octet = octet} bare)) = bare_blank octet bare
  where
    bare_blank : (octet : ℕ) → is_special octet ≡ false → is_blank octet ≡ false
    bare_blank octet bare = search rules
part_begins part rest (inl IsPieceBut.escaped) = refl
part_begins part rest (inr (inside, made, same)) = subst (λ t. BeginsNoBlank (t ++ rest)) (sym same) refl

parts_begin : (parts : List (List ℕ)) (rest : List ℕ) → AllByRecursion IsWordPart parts → 1 ≤ length (concat parts)
    → BeginsNoBlank (concat parts ++ rest)
parts_begin [] rest are some = absurd (omega (arith, some))
parts_begin (part ∷ parts) rest are some =
    subst BeginsNoBlank (sym (append_assoc part (concat parts) rest))
    (part_begins part (concat parts ++ rest) are.0)

word_begins : (word rest : List ℕ) → IsWord word → BeginsNoBlank (word ++ rest)
word_begins word rest (some, (parts, are, same)) =
    subst (λ t. BeginsNoBlank (t ++ rest)) (sym same)
    (parts_begin parts rest are (subst (λ t. 1 ≤ length t) same some))

-- a word before a text with words
pub words_before : (word text : List ℕ) (words : List (List ℕ)) → IsWord word → AreWords words text
    → AreWords (word ∷ words) (word ++ 32 ∷ text)
words_before word text words is are = (text, taken_space word text is (begin words text are), are)
  where
    begin : (words : List (List ℕ)) (text : List ℕ) → AreWords words text → BeginsNoBlank text
    begin [] text none = subst BeginsNoBlank (sym none) tt
    begin (first ∷ words) text (rest, taken, more) =
        subst BeginsNoBlank (sym taken.3) (word_begins first taken.1 taken.2)

-- ---- lines

-- no octet is a line feed
abbrev pub IsFeedless : List ℕ → Type 0
IsFeedless text = AllByRecursion (λ octet. ¬ (octet ≡ 10)) text

abbrev pub IsLineWord : List ℕ → Type 0
IsLineWord word = IsWord word × IsFeedless word

pub feedless_both : (xs ys : List ℕ) → IsFeedless xs → IsFeedless ys → IsFeedless (xs ++ ys)
feedless_both [] ys one two = two
feedless_both (x ∷ xs) ys one two = (one.0, feedless_both xs ys one.1 two)

pub spaced_feedless : (word : List ℕ) (words : List (List ℕ)) → IsFeedless word → AllByRecursion IsLineWord words
    → IsFeedless (word ++ spaced words)
spaced_feedless word [] is are = feedless_both word [] is tt
spaced_feedless word (next ∷ words) is are =
    feedless_both word (32 ∷ next ++ spaced words) is
    (λ same. omega (arith, same), spaced_feedless next words are.0.1 are.1)

-- words with a space between them are these words
pub spaced_words : (word : List ℕ) (words : List (List ℕ)) → IsWord word → AllByRecursion IsLineWord words
    → AreWords (word ∷ words) (word ++ spaced words)
spaced_words word [] is are =
    ([], subst (λ t. TakesWord word t []) (sym (append-nil word)) (taken_end word is), refl)
spaced_words word (next ∷ words) is are = (
  next ++ spaced words,
  taken_space word (next ++ spaced words) is (word_begins next (spaced words) are.0.0),
  spaced_words next words are.0.0 are.1,
)

-- ---- octets that stand for themselves

abbrev pub IsOrdinary : ℕ → Type 0
IsOrdinary octet = is_special octet ≡ false

abbrev pub AreOrdinary : List ℕ → Type 0
AreOrdinary text = AllByRecursion IsOrdinary text

-- A text is a word of a line, and not the one before opaque data.
abbrev pub IsFirst : List ℕ → Type 0
IsFirst word = IsWord word × IsFeedless word × ¬ (word ≡ opaque_word)

pub ordinary_feedless : (text : List ℕ) → AreOrdinary text → IsFeedless text
ordinary_feedless [] are = tt
ordinary_feedless (octet ∷ text) are =
    (λ same. true≢false (subst IsOrdinary same are.0), ordinary_feedless text are.1)

pub ordinary_first : (text : List ℕ) → 1 ≤ length text → AreOrdinary text → IsFirst text
ordinary_first text some are = (
  plain_word text some (All-from_recursion IsOrdinary text are),
  ordinary_feedless text are,
  λ same. true≢false ((subst AreOrdinary same are).0),
)

-- what is above a quotation mark and no backslash
pub high_ordinary : (octet : ℕ) → 35 ≤ octet → octet ≢ 92 → IsOrdinary octet
high_ordinary octet high other =
    let quote = ne_eqb 34 octet (λ e. omega (arith, e, high)) in
    let backslash = ne_eqb 92 octet (λ e. other (sym e)) in
    let tab = ne_eqb 9 octet (λ e. omega (arith, e, high)) in
    let feed = ne_eqb 10 octet (λ e. omega (arith, e, high)) in
    let return = ne_eqb 13 octet (λ e. omega (arith, e, high)) in
    let space = ne_eqb 32 octet (λ e. omega (arith, e, high)) in
    rw (tab, feed, return, space, quote, backslash) refl

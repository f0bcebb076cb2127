-- The pieces and parts of a word are found in one way.
use Rattle.std.proofs.Common.{◌≡◌, ℕ, Bool, true, false, inl, inr, List, [], ◌∷◌, ◌++◌, length}
use Rattle.std.proofs.Common.{refl, sym, ap, ◌∙◌, subst, append_assoc, arith, rules}
use Rattle.std.proofs.Math.Bool.{true≢false}
use Rattle.std.proofs.lemmas.List.{length-append}
use Rattle.octseq_dns_scan.specs.Made.{Leaves}
use Rattle.octseq_dns_scan.specs.Word.{is_blank, is_special, is_special_in_quotes, IsPieceBut, IsQuotedPiece}
use Rattle.octseq_dns_scan.specs.Word.{IsQuotedPart, IsWordPart, EndsWord, BeginsWithQuote}
use Rattle.octseq_dns_scan.proofs.Mades.{head, tail, IsCode, made_once, no_piece, LeavesSame, same_more}

-- a piece is found in one way
piece_once : (special : ℕ → Bool) → special 92 ≡ true → (p q xs ys : List ℕ) → IsPieceBut special p
    → IsPieceBut special q → p ++ xs ≡ q ++ ys → (p ≡ q) × (xs ≡ ys)
piece_once special is p q xs ys (IsPieceBut.plain bare) (IsPieceBut.plain other_bare) same =
    (ap (λ o. o ∷ []) (head same), tail same)
piece_once special is p q xs ys (IsPieceBut.plain bare) IsPieceBut.escaped same =
    absurd (true≢false (sym is ∙ ap special (sym (head same)) ∙ bare))
piece_once special is p q xs ys IsPieceBut.escaped (IsPieceBut.plain bare) same =
    absurd (true≢false (sym is ∙ ap special (head same) ∙ bare))
piece_once special is p q xs ys IsPieceBut.escaped IsPieceBut.escaped same =
    (ap (λ o. 92 ∷ o ∷ []) (head (tail same)), tail (tail same))

-- and begins with no special octet but a backslash
piece_apart : (special : ℕ → Bool) (octet : ℕ) → special octet ≡ true → ¬ (octet ≡ 92) → (p xs ys : List ℕ)
    → IsPieceBut special p → ¬ (p ++ xs ≡ octet ∷ ys)
piece_apart special octet is other p xs ys (IsPieceBut.plain bare) same =
    true≢false (sym is ∙ ap special (sym (head same)) ∙ bare)
piece_apart special octet is other p xs ys IsPieceBut.escaped same = other (sym (head same))

pub quoted_code : IsCode IsQuotedPiece BeginsWithQuote
quoted_code = record {
  once = piece_once is_special_in_quotes refl;
  apart = λ p xs ys one begins same.
      piece_apart is_special_in_quotes 34 refl (λ e. absurd (omega (arith, e))) p xs begins.0 one (same ∙ begins.1);
}

-- ---- parts

-- what follows an opening quotation mark is found in one way
quoted_once : (p q xs ys : List ℕ) → IsQuotedPart p → IsQuotedPart q → p ++ xs ≡ q ++ ys → (p ≡ q) × (xs ≡ ys)
quoted_once p q xs ys one two same =
    let all : 34 ∷ (one.0 ++ 34 ∷ xs) ≡ 34 ∷ (two.0 ++ 34 ∷ ys) =
    ap (λ l. 34 ∷ l) (sym (append_assoc one.0 (34 ∷ []) xs)) ∙ ap (λ l. l ++ xs) (sym one.2) ∙ same
    ∙ ap (λ l. l ++ ys) two.2 ∙ ap (λ l. 34 ∷ l) (append_assoc two.0 (34 ∷ []) ys) in
    let both = made_once IsQuotedPiece BeginsWithQuote quoted_code one.0 two.0 (34 ∷ xs) (34 ∷ ys) one.1 two.1
    (xs, refl) (ys, refl) (tail all) in
    (one.2 ∙ ap (λ l. 34 ∷ l ++ 34 ∷ []) both.0 ∙ sym two.2, tail both.1)

part_once : (p q xs ys : List ℕ) → IsWordPart p → IsWordPart q → p ++ xs ≡ q ++ ys → (p ≡ q) × (xs ≡ ys)
part_once p q xs ys (inl one) (inl two) same = piece_once is_special refl p q xs ys one two same
part_once p q xs ys (inl one) (inr two) same =
    absurd (piece_apart is_special 34 refl (λ e. absurd (omega (arith, e))) p xs (two.0 ++ 34 ∷ [] ++ ys) one
    (same ∙ ap (λ l. l ++ ys) two.2))
part_once p q xs ys (inr one) (inl two) same =
    absurd (piece_apart is_special 34 refl (λ e. absurd (omega (arith, e))) q ys (one.0 ++ 34 ∷ [] ++ xs) two
    (sym same ∙ ap (λ l. l ++ xs) one.2))
part_once p q xs ys (inr one) (inr two) same = quoted_once p q xs ys one two same

-- a blank begins no part
blank_apart : (octet : ℕ) → is_blank octet ≡ true → (p xs ys : List ℕ) → IsWordPart p → ¬ (p ++ xs ≡ octet ∷ ys)
blank_apart octet is p xs ys (inl one) same =
    let special : is_special octet ≡ true = search rules in
    let other : ¬ (octet ≡ 92) = search rules in
    piece_apart is_special octet special other p xs ys one same
blank_apart octet is p xs ys (inr one) same =
    let first : 34 ≡ octet = head (ap (λ l. l ++ xs) (sym one.2) ∙ same) in
    true≢false (sym is ∙ ap is_blank (sym first))

-- nor does nothing
part_some : (p xs : List ℕ) → IsWordPart p → ¬ (p ++ xs ≡ [])
part_some p xs (inl (IsPieceBut.plain bare)) same = let e = ap length same in absurd (omega (arith, e))
part_some p xs (inl IsPieceBut.escaped) same = let e = ap length same in absurd (omega (arith, e))
part_some p xs (inr one) same =
    let e = ap length (ap (λ l. l ++ xs) (sym one.2) ∙ same) in absurd (omega (arith, e))

part_apart : (p xs ys : List ℕ) → IsWordPart p → EndsWord ys → ¬ (p ++ xs ≡ ys)
part_apart p xs [] one ends same = part_some p xs one same
part_apart p xs (octet ∷ ys) one ends same = blank_apart octet ends p xs ys one same

pub part_code : IsCode IsWordPart EndsWord
part_code = record { once = part_once; apart = part_apart }

-- ---- where a word can't go on

-- at the end, within quotation marks
pub quoted_end : (text ahead : List ℕ) → LeavesSame IsQuotedPiece BeginsWithQuote text ahead → length ahead ≡ 0
    → (rest : List ℕ) → ¬ Leaves IsQuotedPiece BeginsWithQuote text rest
quoted_end text ahead so_far none rest left =
    let here = so_far.from rest left in
    let e = ap length (here.2 ∙ ap (λ l. here.0 ++ l) here.3.1) ∙ length-append here.0 (34 ∷ here.3.0) in
    absurd (omega (arith, e, none))

lone_backslash : (special : ℕ → Bool) → special 92 ≡ true → (p xs : List ℕ) → IsPieceBut special p
    → ¬ (92 ∷ [] ≡ p ++ xs)
lone_backslash special is p xs (IsPieceBut.plain bare) same =
    true≢false (sym is ∙ ap special (head same) ∙ bare)
lone_backslash special is p xs IsPieceBut.escaped same = let e = ap length same in absurd (omega (arith, e))

-- at a backslash that nothing follows
pub quoted_backslash : (text ahead next : List ℕ) → LeavesSame IsQuotedPiece BeginsWithQuote text ahead
    → ahead ≡ 92 ∷ next → next ≡ [] → (rest : List ℕ) → ¬ Leaves IsQuotedPiece BeginsWithQuote text rest
quoted_backslash text ahead next so_far here end rest left =
    no_piece IsQuotedPiece BeginsWithQuote (92 ∷ []) (lone_backslash is_special_in_quotes refl)
    (λ begins. absurd (omega (arith, head begins.1))) rest
    (subst (λ l. Leaves IsQuotedPiece BeginsWithQuote l rest) (here ∙ ap (λ l. 92 ∷ l) end) (so_far.from rest left))

part_backslash : (p xs : List ℕ) → IsWordPart p → ¬ (92 ∷ [] ≡ p ++ xs)
part_backslash p xs (inl one) same = lone_backslash is_special refl p xs one same
part_backslash p xs (inr one) same =
    let e = head (same ∙ ap (λ l. l ++ xs) one.2) in absurd (omega (arith, e))

pub word_backslash : (text ahead next : List ℕ) → LeavesSame IsWordPart EndsWord text ahead
    → ahead ≡ 92 ∷ next → next ≡ [] → (rest : List ℕ) → ¬ Leaves IsWordPart EndsWord text rest
word_backslash text ahead next so_far here end rest left =
    no_piece IsWordPart EndsWord (92 ∷ []) part_backslash (λ ends. true≢false (sym ends)) rest
    (subst (λ l. Leaves IsWordPart EndsWord l rest) (here ∙ ap (λ l. 92 ∷ l) end) (so_far.from rest left))

part_line : (octet : ℕ) → is_special octet ≡ true → ¬ (octet ≡ 92) → ¬ (octet ≡ 34) → (next p xs : List ℕ)
    → IsWordPart p → ¬ (octet ∷ next ≡ p ++ xs)
part_line octet is other quote next p xs (inl one) same =
    piece_apart is_special octet is other p xs next one (sym same)
part_line octet is other quote next p xs (inr one) same = quote (head (same ∙ ap (λ l. l ++ xs) one.2))

-- at the end of a line
pub word_line : (text ahead next : List ℕ) (octet : ℕ) → LeavesSame IsWordPart EndsWord text ahead
    → ahead ≡ octet ∷ next → is_special octet ≡ true → ¬ (octet ≡ 92) → ¬ (octet ≡ 34) → is_blank octet ≡ false
    → (rest : List ℕ) → ¬ Leaves IsWordPart EndsWord text rest
word_line text ahead next octet so_far here is other quote bare rest left =
    no_piece IsWordPart EndsWord (octet ∷ next) (part_line octet is other quote next)
    (λ ends. true≢false (sym ends ∙ bare)) rest
    (subst (λ l. Leaves IsWordPart EndsWord l rest) here (so_far.from rest left))

part_open : (next : List ℕ) → ((rest : List ℕ) → ¬ Leaves IsQuotedPiece BeginsWithQuote next rest) → (p xs : List ℕ)
    → IsWordPart p → ¬ (34 ∷ next ≡ p ++ xs)
part_open next none p xs (inl one) same =
    piece_apart is_special 34 refl (λ e. absurd (omega (arith, e))) p xs next one (sym same)
part_open next none p xs (inr one) same =
    none (34 ∷ xs) (one.0, one.1, tail (same ∙ ap (λ l. l ++ xs) one.2) ∙ append_assoc one.0 (34 ∷ []) xs, (xs, refl))

-- at a quotation mark that isn't closed
pub word_open : (text ahead next : List ℕ) → LeavesSame IsWordPart EndsWord text ahead
    → ahead ≡ 34 ∷ next → ((rest : List ℕ) → ¬ Leaves IsQuotedPiece BeginsWithQuote next rest)
    → (rest : List ℕ) → ¬ Leaves IsWordPart EndsWord text rest
word_open text ahead next so_far here none rest left =
    no_piece IsWordPart EndsWord (34 ∷ next) (part_open next none) (λ ends. true≢false (sym ends)) rest
    (subst (λ l. Leaves IsWordPart EndsWord l rest) here (so_far.from rest left))

-- ---- how it goes on

pub quoted_plain : (text ahead next : List ℕ) (octet : ℕ) → LeavesSame IsQuotedPiece BeginsWithQuote text ahead
    → ahead ≡ octet ∷ next → is_special_in_quotes octet ≡ false → LeavesSame IsQuotedPiece BeginsWithQuote text next
quoted_plain text ahead next octet so_far here bare =
    same_more IsQuotedPiece BeginsWithQuote quoted_code text ahead (octet ∷ []) next so_far (IsPieceBut.plain bare) here

pub quoted_escaped : (text ahead after next : List ℕ) (octet : ℕ)
    → LeavesSame IsQuotedPiece BeginsWithQuote text ahead → ahead ≡ 92 ∷ after → after ≡ octet ∷ next
    → LeavesSame IsQuotedPiece BeginsWithQuote text next
quoted_escaped text ahead after next octet so_far here then =
    same_more IsQuotedPiece BeginsWithQuote quoted_code text ahead (92 ∷ octet ∷ []) next so_far IsPieceBut.escaped
    (here ∙ ap (λ l. 92 ∷ l) then)

pub word_plain : (text ahead next : List ℕ) (octet : ℕ) → LeavesSame IsWordPart EndsWord text ahead
    → ahead ≡ octet ∷ next → is_special octet ≡ false → LeavesSame IsWordPart EndsWord text next
word_plain text ahead next octet so_far here bare =
    same_more IsWordPart EndsWord part_code text ahead (octet ∷ []) next so_far (inl (IsPieceBut.plain bare)) here

pub word_escaped : (text ahead after next : List ℕ) (octet : ℕ) → LeavesSame IsWordPart EndsWord text ahead
    → ahead ≡ 92 ∷ after → after ≡ octet ∷ next → LeavesSame IsWordPart EndsWord text next
word_escaped text ahead after next octet so_far here then =
    same_more IsWordPart EndsWord part_code text ahead (92 ∷ octet ∷ []) next so_far (inl IsPieceBut.escaped)
    (here ∙ ap (λ l. 92 ∷ l) then)

pub word_quoted : (text ahead after next : List ℕ) → LeavesSame IsWordPart EndsWord text ahead → ahead ≡ 34 ∷ after
    → Leaves IsQuotedPiece BeginsWithQuote after (34 ∷ next) → LeavesSame IsWordPart EndsWord text next
word_quoted text ahead after next so_far here left =
    same_more IsWordPart EndsWord part_code text ahead (34 ∷ left.0 ++ 34 ∷ []) next so_far
    (inr (left.0, left.1, refl))
    (here ∙ ap (λ l. 34 ∷ l) (left.2 ∙ sym (append_assoc left.0 (34 ∷ []) next)))

-- The words at the front of a text, and what they are read as.
use Rattle.std.proofs.Common.{◌≡◌, ◌+◌, ◌≤◌, ℕ, List, [], ◌∷◌, ◌++◌, length, refl, sym, ap, ◌∙◌, subst, arith}
use Rattle.std.specs.List.{AllZip}
use Rattle.std.proofs.lemmas.List.{append-nil, length-append}
use Rattle.octseq_dns_scan.specs.Word.{TakesWord, AreWords}
use Rattle.octseq_dns_text.specs.Scans.{BeginsWithWords}

-- one more word
pub front_more : (front : List (List ℕ)) (text word rest left : List ℕ) → BeginsWithWords front text rest
    → TakesWord word rest left → BeginsWithWords (front ++ word ∷ []) text left
front_more [] text word rest left begins taken =
    (left, subst (λ t. TakesWord word t left) (sym begins) taken, refl)
front_more (first ∷ front) text word rest left begins taken =
    (begins.0, begins.1, front_more front begins.0 word rest left begins.2 taken)

-- at the end, the text is these words
pub front_all : (front : List (List ℕ)) (text rest : List ℕ) → BeginsWithWords front text rest → rest ≡ []
    → AreWords front text
front_all [] text rest begins end = begins ∙ end
front_all (word ∷ front) text rest begins end = (begins.0, begins.1, front_all front begins.0 rest begins.2 end)

-- after a word, less is left
pub word_shortens : (word text rest : List ℕ) → TakesWord word text rest → length rest + 1 ≤ length text
word_shortens word text rest taken =
    let all = ap length taken.3 ∙ length-append word taken.1 in
    let after = ap length taken.5.1 ∙ length-append taken.0 rest in
    let some = taken.2.0 in
    omega (arith, all, after, some)

-- ---- what they are read as

-- one more
pub zip_more : {A B : Type 0} (R : A → B → Type 0) (xs : List A) (ys : List B) (x : A) (y : B) → AllZip R xs ys → R x y
    → AllZip R (xs ++ x ∷ []) (ys ++ y ∷ [])
zip_more R [] [] x y each one = (one, tt)
zip_more R [] (b ∷ ys) x y each one = absurd each
zip_more R (a ∷ xs) [] x y each one = absurd each
zip_more R (a ∷ xs) (b ∷ ys) x y each one = (each.0, zip_more R xs ys x y each.1 one)

-- what one among others is read as
pub zip_part : {A B : Type 0} (R : A → B → Type 0) (xs : List A) (x : A) (more : List A) (zs : List B)
    → AllZip R ((xs ++ x ∷ []) ++ more) zs
    → (before : List B) × (z : B) × (after : List B) × (zs ≡ before ++ z ∷ after) × AllZip R xs before × R x z
zip_part R [] x more [] each = absurd each
zip_part R [] x more (z ∷ zs) each = ([], z, zs, refl, tt, each.0)
zip_part R (a ∷ xs) x more [] each = absurd each
zip_part R (a ∷ xs) x more (b ∷ zs) each =
    let found = zip_part R xs x more zs each.1 in
    (b ∷ found.0, found.1, found.2, ap (λ l. b ∷ l) found.3, (each.0, found.4), found.5)

-- each is read as one thing at most, and so are all of them
pub zip_once : {A B : Type 0} (R : A → B → Type 0) → ((x : A) (y z : B) → R x y → R x z → y ≡ z) → (xs : List A)
    (ys zs : List B) → AllZip R xs ys → AllZip R xs zs → ys ≡ zs
zip_once R once [] [] [] one two = refl
zip_once R once [] [] (z ∷ zs) one two = absurd two
zip_once R once [] (y ∷ ys) zs one two = absurd one
zip_once R once (x ∷ xs) [] zs one two = absurd one
zip_once R once (x ∷ xs) (y ∷ ys) [] one two = absurd two
zip_once R once (x ∷ xs) (y ∷ ys) (z ∷ zs) one two =
    let more = zip_once R once xs ys zs one.1 two.1 in
    ap (λ a. a ∷ ys) (once x y z one.0 two.0) ∙ ap (λ l. z ∷ l) more

pub zip_nil : {A B : Type 0} (R : A → B → Type 0) (xs : List A) (ys : List B) → AllZip R xs ys
    → AllZip R (xs ++ []) ys
zip_nil R xs ys each = subst (λ l. AllZip R l ys) (sym (append-nil xs)) each

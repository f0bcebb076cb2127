-- Pieces that a text is made of are found in one way, if each is, and none begins as what follows them.
use Rattle.std.proofs.Common.{◌≡◌, ℕ, List, [], ◌∷◌, ◌++◌, drop, get_or}
use Rattle.std.proofs.Common.{refl, sym, ap, ◌∙◌, subst, append_assoc}
use Rattle.std.specs.List.{AllByRecursion, concat}
use Rattle.octseq_dns_scan.specs.Made.{IsMade, Leaves}

-- what a list begins with
pub head : {a b : ℕ} {xs ys : List ℕ} → a ∷ xs ≡ b ∷ ys → a ≡ b
head {a = a} same = ap (λ l. get_or l 0 a) same

pub tail : {a b : ℕ} {xs ys : List ℕ} → a ∷ xs ≡ b ∷ ys → xs ≡ ys
tail same = ap (drop 1) same

-- a piece is found in one way, and nothing that follows pieces begins with one
pub record IsCode (P Follows : List ℕ → Type 0) : Type 0 where
  pub once : (p q xs ys : List ℕ) → P p → P q → p ++ xs ≡ q ++ ys → (p ≡ q) × (xs ≡ ys)
  pub apart : (p xs ys : List ℕ) → P p → Follows ys → ¬ (p ++ xs ≡ ys)

-- ---- what texts are made of

pub made_none : (P : List ℕ → Type 0) → IsMade P []
made_none P = ([], tt, refl)

pub made_first : (P : List ℕ → Type 0) (p text : List ℕ) → P p → IsMade P text → IsMade P (p ++ text)
made_first P p text one made = (p ∷ made.0, (one, made.1), ap (λ l. p ++ l) made.2)

made_both : (P : List ℕ → Type 0) (pieces : List (List ℕ)) → AllByRecursion P pieces → (text : List ℕ) → IsMade P text
    → IsMade P (concat pieces ++ text)
made_both P [] are text made = made
made_both P (p ∷ pieces) are text made =
    subst (IsMade P) (sym (append_assoc p (concat pieces) text))
    (made_first P p (concat pieces ++ text) are.0 (made_both P pieces are.1 text made))

-- two texts made of pieces, side by side
pub made_append : (P : List ℕ → Type 0) (front text : List ℕ) → IsMade P front → IsMade P text
    → IsMade P (front ++ text)
made_append P front text one made =
    subst (λ l. IsMade P (l ++ text)) (sym one.2) (made_both P one.0 one.1 text made)

-- what is made of pieces and begins with a piece goes on with pieces
rest_made : (P Follows : List ℕ → Type 0) → IsCode P Follows → (pieces : List (List ℕ)) → AllByRecursion P pieces
    → (p xs ys : List ℕ) → P p → Follows ys → p ++ xs ≡ concat pieces ++ ys
    → (front : List ℕ) × IsMade P front × (xs ≡ front ++ ys)
rest_made P Follows code [] are p xs ys one follows same = absurd (code.apart p xs ys one follows same)
rest_made P Follows code (q ∷ pieces) are p xs ys one follows same =
    let both = code.once p q xs (concat pieces ++ ys) one are.0 (same ∙ append_assoc q (concat pieces) ys) in
    (concat pieces, (pieces, are.1, refl), both.1)

-- ---- what is left after pieces

-- nothing but what follows pieces
pub leaves_here : (P Follows : List ℕ → Type 0) (text : List ℕ) → Follows text → Leaves P Follows text text
leaves_here P Follows text follows = ([], made_none P, refl, follows)

-- with a piece before
pub leaves_more : (P Follows : List ℕ → Type 0) (p text ahead rest : List ℕ) → P p → text ≡ p ++ ahead
    → Leaves P Follows ahead rest → Leaves P Follows text rest
leaves_more P Follows p text ahead rest one same left = (
  p ++ left.0,
  made_first P p left.0 one left.1,
  same ∙ ap (λ l. p ++ l) left.2 ∙ sym (append_assoc p left.0 rest),
  left.3,
)

-- and after the first piece
pub leaves_less : (P Follows : List ℕ → Type 0) → IsCode P Follows → (p text ahead rest : List ℕ) → P p
    → text ≡ p ++ ahead → Leaves P Follows text rest → Leaves P Follows ahead rest
leaves_less P Follows code p text ahead rest one same left =
    let all = sym same ∙ left.2 ∙ ap (λ l. l ++ rest) left.1.2 in
    let found = rest_made P Follows code left.1.0 left.1.1 p ahead rest one left.3 all in
    (found.0, found.1, found.2, left.3)

-- the same is left after the pieces of two texts
pub record LeavesSame (P Follows : List ℕ → Type 0) (text ahead : List ℕ) : Type 0 where
  pub to : (rest : List ℕ) → Leaves P Follows ahead rest → Leaves P Follows text rest
  pub from : (rest : List ℕ) → Leaves P Follows text rest → Leaves P Follows ahead rest

pub same_none : (P Follows : List ℕ → Type 0) (text : List ℕ) → LeavesSame P Follows text text
same_none P Follows text = record { to = λ rest left. left; from = λ rest left. left }

pub same_more : (P Follows : List ℕ → Type 0) → IsCode P Follows → (text ahead p next : List ℕ)
    → LeavesSame P Follows text ahead → P p → ahead ≡ p ++ next → LeavesSame P Follows text next
same_more P Follows code text ahead p next so_far one same = record {
  to = λ rest left. so_far.to rest (leaves_more P Follows p ahead next rest one same left);
  from = λ rest left. leaves_less P Follows code p ahead next rest one same (so_far.from rest left);
}

-- ---- in one way

front_once : (P Follows : List ℕ → Type 0) → IsCode P Follows → (pieces others : List (List ℕ))
    → AllByRecursion P pieces → AllByRecursion P others → (xs ys : List ℕ) → Follows xs → Follows ys
    → concat pieces ++ xs ≡ concat others ++ ys → (concat pieces ≡ concat others) × (xs ≡ ys)
front_once P Follows code [] [] are others_are xs ys ends others_end same = (refl, same)
front_once P Follows code [] (q ∷ others) are others_are xs ys ends others_end same =
    absurd (code.apart q (concat others ++ ys) xs others_are.0 ends
    (sym (append_assoc q (concat others) ys) ∙ sym same))
front_once P Follows code (p ∷ pieces) [] are others_are xs ys ends others_end same =
    absurd (code.apart p (concat pieces ++ xs) ys are.0 others_end (sym (append_assoc p (concat pieces) xs) ∙ same))
front_once P Follows code (p ∷ pieces) (q ∷ others) are others_are xs ys ends others_end same =
    let both = code.once p q (concat pieces ++ xs) (concat others ++ ys) are.0 others_are.0
    (sym (append_assoc p (concat pieces) xs) ∙ same ∙ append_assoc q (concat others) ys) in
    let more = front_once P Follows code pieces others are.1 others_are.1 xs ys ends others_end both.1 in
    (ap (λ l. l ++ concat pieces) both.0 ∙ ap (λ l. q ++ l) more.0, more.1)

-- what texts made of pieces are followed by tells them
pub made_once : (P Follows : List ℕ → Type 0) → IsCode P Follows → (text other xs ys : List ℕ) → IsMade P text
    → IsMade P other → Follows xs → Follows ys → text ++ xs ≡ other ++ ys → (text ≡ other) × (xs ≡ ys)
made_once P Follows code text other xs ys made other_made ends others_end same =
    let both = front_once P Follows code made.0 other_made.0 made.1 other_made.1 xs ys ends others_end
    (ap (λ l. l ++ xs) (sym made.2) ∙ same ∙ ap (λ l. l ++ ys) other_made.2) in
    (made.2 ∙ both.0 ∙ sym other_made.2, both.1)

-- ---- where nothing is left

no_front : (P Follows : List ℕ → Type 0) (text : List ℕ) → ((p xs : List ℕ) → P p → ¬ (text ≡ p ++ xs))
    → ¬ Follows text → (pieces : List (List ℕ)) → AllByRecursion P pieces → (rest : List ℕ) → Follows rest
    → ¬ (text ≡ concat pieces ++ rest)
no_front P Follows text none ends [] are rest follows same = ends (subst Follows (sym same) follows)
no_front P Follows text none ends (p ∷ pieces) are rest follows same =
    none p (concat pieces ++ rest) are.0 (same ∙ append_assoc p (concat pieces) rest)

-- a text that neither begins with a piece nor may follow pieces
pub no_piece : (P Follows : List ℕ → Type 0) (text : List ℕ)
    → ((p xs : List ℕ) → P p → ¬ (text ≡ p ++ xs)) → ¬ Follows text → (rest : List ℕ) → ¬ Leaves P Follows text rest
no_piece P Follows text none ends rest left =
    no_front P Follows text none ends left.1.0 left.1.1 rest left.3 (left.2 ∙ ap (λ l. l ++ rest) left.1.2)

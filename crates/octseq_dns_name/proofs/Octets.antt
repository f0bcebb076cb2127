-- What spells an octet: at most one, and none of some octets.
use Rattle.std.proofs.Common.{◌≡◌, ℕ, ◌+◌, ◌/◌, ◌%◌, ◌<◌, ◌≤◌, true, false, List, [], ◌∷◌, ◌++◌, length}
use Rattle.std.proofs.Common.{get_or, drop, sym, ap, ◌∙◌, arith, rules}
use Rattle.std.proofs.Math.Bool.{true≢false}
use Rattle.std.proofs.lemmas.List.{length-append}
use Rattle.std.specs.Char.{is_ascii_digit}
use Rattle.octseq_dns_name.specs.Refused.{SpellsNone}
use Rattle.octseq_dns_name.specs.Spelling.{SpellsOctet}
use Rattle.octseq_dns_name.specs.Text.{is_quoted}

-- ---- lists

pub head : {a b : ℕ} {xs ys : List ℕ} → a ∷ xs ≡ b ∷ ys → a ≡ b
head {a = a} same = ap (λ l. get_or l 0 a) same

pub tail : {a b : ℕ} {xs ys : List ℕ} → a ∷ xs ≡ b ∷ ys → xs ≡ ys
tail same = ap (drop 1) same

-- ---- an octet

digit_is : (n : ℕ) → n < 256 → is_ascii_digit (48 + n / 100) ≡ true
digit_is n few = search rules

numbers : (a b : ℕ) → 48 + a / 100 ≡ 48 + b / 100 → 48 + a / 10 % 10 ≡ 48 + b / 10 % 10 → 48 + a % 10 ≡ 48 + b % 10
    → a ≡ b
numbers a b first second third = omega (arith, first, second, third)

-- a spelling of an octet determines it, and what follows it
pub octet_once : (a b : ℕ) (s t xs ys : List ℕ) → SpellsOctet a s → SpellsOctet b t → s ++ xs ≡ t ++ ys
    → (a ≡ b) × (xs ≡ ys)
octet_once a b s t xs ys (SpellsOctet.plain bare seen) (SpellsOctet.plain other_bare other_seen) same =
    (head same, tail same)
octet_once a b s t xs ys (SpellsOctet.plain bare seen) (SpellsOctet.quoted letter) same =
    absurd (true≢false (ap is_quoted (sym (head same)) ∙ bare))
octet_once a b s t xs ys (SpellsOctet.plain bare seen) (SpellsOctet.numbered few) same =
    absurd (true≢false (ap is_quoted (sym (head same)) ∙ bare))
octet_once a b s t xs ys (SpellsOctet.quoted letter) (SpellsOctet.plain bare seen) same =
    absurd (true≢false (ap is_quoted (head same) ∙ bare))
octet_once a b s t xs ys (SpellsOctet.quoted letter) (SpellsOctet.quoted other_letter) same =
    (head (tail same), tail (tail same))
octet_once a b s t xs ys (SpellsOctet.quoted letter) (SpellsOctet.numbered few) same =
    absurd (true≢false (sym (digit_is b few) ∙ ap is_ascii_digit (sym (head (tail same))) ∙ letter))
octet_once a b s t xs ys (SpellsOctet.numbered few) (SpellsOctet.plain bare seen) same =
    absurd (true≢false (ap is_quoted (head same) ∙ bare))
octet_once a b s t xs ys (SpellsOctet.numbered few) (SpellsOctet.quoted letter) same =
    absurd (true≢false (sym (digit_is a few) ∙ ap is_ascii_digit (head (tail same)) ∙ letter))
octet_once a b s t xs ys (SpellsOctet.numbered few) (SpellsOctet.numbered other_few) same =
    let second = tail same in let third = tail second in let fourth = tail third in
    (numbers a b (head second) (head third) (head fourth), tail fourth)

-- it isn't empty
pub spelling_long : (octet : ℕ) (text : List ℕ) → SpellsOctet octet text → 1 ≤ length text
spelling_long octet text (SpellsOctet.plain bare seen) = omega arith
spelling_long octet text (SpellsOctet.quoted letter) = omega arith
spelling_long octet text (SpellsOctet.numbered few) = omega arith

pub none_at_end : SpellsNone []
none_at_end octet first rest is one =
    let e = ap length is ∙ length-append first rest in
    let some = spelling_long octet first one in
    absurd (omega (arith, e, some))

-- and begins with no octet that needs a backslash, except that
pub none_at : (a : ℕ) (rest : List ℕ) → is_quoted a ≡ true → ¬ (a ≡ 92) → SpellsNone (a ∷ rest)
none_at a rest marked other octet first more is (SpellsOctet.plain bare seen) =
    true≢false (sym marked ∙ ap is_quoted (head is) ∙ bare)
none_at a rest marked other octet first more is (SpellsOctet.quoted letter) = other (head is)
none_at a rest marked other octet first more is (SpellsOctet.numbered few) = other (head is)

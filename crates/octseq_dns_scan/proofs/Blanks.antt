-- How the blanks at the front of a text are taken.
use Rattle.std.proofs.Common.{◌≡◌, ℕ, true, false, List, [], ◌∷◌, length}
use Rattle.std.proofs.Common.{refl, sym, ap, ◌∙◌, subst, arith}
use Rattle.octseq_dns_scan.specs.Word.{is_blank, BeginsNoBlank, SplitsBlanks}

-- what is split off what is ahead is split off the whole text, with blanks before
abbrev pub AfterBlanks : List ℕ → List ℕ → Type 0
AfterBlanks text ahead =
    (blanks rest : List ℕ) → SplitsBlanks blanks ahead rest → (all : List ℕ) × SplitsBlanks all text rest

pub blank_more : (text ahead next : List ℕ) (octet : ℕ) → AfterBlanks text ahead → ahead ≡ octet ∷ next
    → is_blank octet ≡ true → AfterBlanks text next
blank_more text ahead next octet so_far here is = λ blanks rest split.
    so_far (octet ∷ blanks) rest ((is, split.0), here ∙ ap (λ l. octet ∷ l) split.1, split.2)

pub blanks_end : (text ahead : List ℕ) → AfterBlanks text ahead → BeginsNoBlank ahead
    → (all : List ℕ) × SplitsBlanks all text ahead
blanks_end text ahead so_far ends = so_far [] ahead (tt, refl, ends)

pub no_blank : (ahead next : List ℕ) (octet : ℕ) → ahead ≡ octet ∷ next → is_blank octet ≡ false → BeginsNoBlank ahead
no_blank ahead next octet here is = subst BeginsNoBlank (sym here) is

pub no_octet : (ahead : List ℕ) → length ahead ≡ 0 → BeginsNoBlank ahead
no_octet [] none = tt
no_octet (octet ∷ ahead) none = absurd (omega (arith, none))

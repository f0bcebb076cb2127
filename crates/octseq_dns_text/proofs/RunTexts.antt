-- Texts in runs.
use Rattle.std.proofs.Common.{◌≡◌, ℕ, List, [], ◌∷◌, ◌++◌, sym, ap, ◌∙◌, subst, arith}
use Rattle.std.proofs.lemmas.List.{append-nil}
use Rattle.std.proofs.lemmas.List.Folds.{concat-append}
use Rattle.std.specs.List.{concat}
use Rattle.octseq.proofs.WrittenBack.{AreOctets}
use Rattle.octseq_dns_scan.specs.TextReader.{NoText, ReadsSoFar}
use Rattle.octseq_dns_text.specs.Runs.{AreRuns}
use Rattle.octseq_dns_text.specs.Scans.{Goes, AreSome}

pub concat_word : (front : List (List ℕ)) (word : List ℕ) → concat (front ++ word ∷ []) ≡ concat front ++ word
concat_word front word = concat-append front (word ∷ []) ∙ ap (λ rest. concat front ++ rest) (append-nil word)

pub read_word : {S : Type 0} (HasRead : S → List ℕ → List ℕ → Type 0) (before after : S) (word more : List ℕ)
    → ReadsSoFar HasRead before after word more → (front : List (List ℕ)) (made : List ℕ)
    → HasRead before (concat front) made → HasRead after (concat (front ++ word ∷ [])) (made ++ more)
read_word HasRead before after word more reads front made read =
    subst (λ text. HasRead after text (made ++ more)) (sym (concat_word front word)) (reads (concat front) made read)

pub runs_go : (Is : List ℕ → List ℕ → Type 0) (front : List (List ℕ))
    → (more all : List ℕ) × AreOctets all × Is (concat front ++ more) all → Goes (AreRuns Is) front
runs_go Is front (more, all, are, is) =
    (more ∷ [], all, (are, subst (λ text. Is text all) (sym (concat_word front more)) is))

pub runs_stop : (Is : List ℕ → List ℕ → Type 0) (front : List (List ℕ)) (word : List ℕ)
    → NoText Is (concat front ++ word) → ¬ Goes (AreRuns Is) (front ++ word ∷ [])
runs_stop Is front word none (more, octets, (are, is)) =
    none octets (concat more) are (subst (λ text. Is text octets)
    (concat-append (front ++ word ∷ []) more ∙ ap (λ text. text ++ concat more) (concat_word front word)) is)

pub some_runs_go : (Is : List ℕ → List ℕ → Type 0) → (more all : List ℕ) × AreOctets all × Is more all
    → Goes (AreSome (AreRuns Is)) []
some_runs_go Is (more, all, are, is) =
    (more ∷ [], all, (omega arith, (are, subst (λ text. Is text all) (sym (append-nil more)) is)))

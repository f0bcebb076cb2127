-- The part of joined words that is still to come.
use Rattle.std.proofs.Common.{◌≡◌, ℕ, suc, ◌+◌, ◌<◌, List, ◌∷◌, ◌++◌, length, drop}
use Rattle.std.proofs.Common.{map, get_or, Option, subst, sym, ap, ◌∙◌, append_assoc, arith}
use Rattle.std.proofs.Math.Seq.{drop-cons}
use Rattle.std.proofs.lemmas.List.{length-append}
use Rattle.std.specs.List.{flat_map}
use Rattle.octseq.proofs.Limits.{past_more}
use Rattle.octseq.specs.Limit.{ExceedsLimit}
use Rattle.octseq_callers.specs.Joined.{joined}

-- the words, each after a separator
abbrev pub spread : List ℕ → List (List ℕ) → List ℕ
spread separator words = flat_map (λ other. separator ++ other) words

-- the words from an index on are still to come
abbrev pub ToCome : {W : Type 0} → (W → List ℕ) → List ℕ → List W → ℕ → List ℕ → List ℕ → Type 0
ToCome show separator others place text all = text ++ spread separator (map show (drop place others)) ≡ all

-- after the first word, all others are still to come
pub to_come_first : {W : Type 0} (show : W → List ℕ) (separator old text : List ℕ) (words others : List W) (first : W)
    → words ≡ first ∷ others → text ≡ old ++ show first
    → ToCome show separator others 0 text (old ++ joined separator (map show words))
to_come_first show separator old text words others first split e =
    ap (λ t. t ++ spread separator (map show others)) e
    ∙ append_assoc old (show first) (spread separator (map show others))
    ∙ ap (λ ws. old ++ joined separator (map show ws)) (sym split)

-- after a separator, the next word is to come, and those after it
pub to_come_word : {W : Type 0} (show : W → List ℕ) (separator text between all : List ℕ) (others : List W)
    (default : W) (i : ℕ) → i < length others
    → ToCome show separator others i text all → between ≡ text ++ separator
    → between ++ (show (get_or others i default) ++ spread separator (map show (drop (suc i) others))) ≡ all
to_come_word show separator text between all others default i within so_far e =
    let word = get_or others i default in
    let more = spread separator (map show (drop (suc i) others)) in
    ap (λ t. t ++ (show word ++ more)) e ∙ append_assoc text separator (show word ++ more)
    ∙ ap (λ x. text ++ x) (sym (append_assoc separator (show word) more))
    ∙ ap (λ ws. text ++ spread separator (map show ws)) (sym (drop-cons others i default within)) ∙ so_far

-- ---- limits

-- what was appended is within the limit
pub within_still : (limit : Option ℕ) (old piece new : List ℕ) → new ≡ old ++ piece
    → (ExceedsLimit limit (length old + length piece) → ⊥) → ExceedsLimit limit (length new) → ⊥
within_still limit old piece new e fine past = fine
    (subst (ExceedsLimit limit) (ap length e ∙ length-append old piece) past)

-- the whole exceeds the limit if a part on the way did
pub past_whole : (limit : Option ℕ) (text piece more all : List ℕ) → text ++ (piece ++ more) ≡ all
    → ExceedsLimit limit (length text + length piece) → ExceedsLimit limit (length all)
past_whole limit text piece more all e past =
    let long : length all ≡ length text + (length piece + length more) =
    ap length (sym e) ∙ length-append text (piece ++ more) ∙ ap (λ n. length text + n) (length-append piece more) in
    past_more limit (length text + length piece) (length all) (omega arith) past

-- Octets are well-formed exactly if they are their own lossy text; and what is shown in a buffer of exactly its size.
use Rattle.std.proofs.Common.{◌≡◌, ◌+◌, ◌≤◌, ℕ, Option, Some, None, List, [], ◌++◌, length, take, ap, sym, ◌∙◌}
use Rattle.std.proofs.Common.{subst, arith, append_assoc, length-append}
use Rattle.std.proofs.Math.Seq.{take-append_seam, take-length}
use Rattle.std.proofs.lemmas.List.{length-take-le}
use Rattle.std.specs.Option.{IfSome}
use Rattle.std.specs.Result.{IsOk, OnErr, OnOk}
use Rattle.std.specs.declared.result.Result.{Result}
use Rattle.std.specs.declared.result.Result.TheVariants.{Ok, Err}
use Rattle.octseq_utf8.specs.Text.{IsWellFormed}
use Rattle.octseq_utf8.proofs.LossyTexts.{replacement_is_character, text_well_formed, text_same}
use Rattle.octseq_utf8.proofs.Spelling.{spells_nothing}
use Rattle.octseq_utf8.proofs.Splitting.{splits}
use Rattle.octseq_utf8.proofs.Texts.{well_formed-append}
use Rattle.octseq_c.specs.OwnText.{IsOwnText}

pub text_from : (x : List ℕ) → IsWellFormed x → IsOwnText x
text_from x well = text_same 0xFFFD x _ well (splits x)

pub well_formed_from : (x : List ℕ) → IsOwnText x → IsWellFormed x
well_formed_from x same = subst IsWellFormed same (text_well_formed 0xFFFD replacement_is_character (splits x))

-- an empty text is text, and so is a longer one
pub text_empty : IsOwnText []
text_empty = text_from [] ([], spells_nothing)

pub text_more : {z : List ℕ} (x y : List ℕ) → IsOwnText x → IsWellFormed y → z ≡ x ++ y → IsOwnText z
text_more x y same well e =
    subst IsOwnText (sym e) (text_from (x ++ y) (well_formed-append x y (well_formed_from x same) well))

-- a front of a buffer that is as long as the buffer is all of it
pub whole_front : (n : ℕ) (x text : List ℕ) → n ≤ length x → take n x ≡ text → length text ≡ length x → x ≡ text
whole_front n x text few front long =
    let all : n ≡ length x = sym (length-take-le n x few) ∙ ap length front ∙ long in
    sym (ap (λ k. take k x) all ∙ take-length x) ∙ front

-- if a value has both properties, it has a third
pub both_some : {A : Type 0} {P Q R : A → Type 0} (o : Option A) → IfSome o P → IfSome o Q
    → ((x : A) → P x → Q x → R x) → IfSome o R
both_some None p q f = tt
both_some (Some x) p q f = f x p q

-- the front of a buffer after one more copy to its end
pub put_front : (x more s : List ℕ) (n : ℕ) (rest : List ℕ) → more ≡ s → n ≤ length x
    → take (n + length s) (take n x ++ (more ++ rest)) ≡ take n x ++ s
put_front x more s n rest same few =
    let long : n + length s ≡ length (take n x ++ s) =
    omega (arith, length-append (take n x) s, length-take-le n x few) in
    ap (λ y. take (n + length s) (take n x ++ (y ++ rest))) same
    ∙ ap (take (n + length s)) (sym (append_assoc (take n x) s rest))
    ∙ ap (λ k. take k ((take n x ++ s) ++ rest)) long ∙ take-append_seam (take n x ++ s) rest

-- what a count says if there is one
pub counted_some : {T E : Type 0} (shown : Result T E) (count : ℕ) (o : Option ℕ) (P : ℕ → Type 0)
    → OnOk shown (o ≡ Some count) → OnErr shown (o ≡ None) → OnOk shown (P count) → IfSome o P
counted_some (Ok x) count o P some none p = subst (λ o. IfSome o P) (sym some) p
counted_some (Err y) count o P some none p = subst (λ o. IfSome o P) (sym none) tt

-- what holds of a value that was shown
pub when_shown : {T E P : Type 0} (shown : Result T E) → IsOk shown → OnOk shown P → P
when_shown (Ok x) is p = p
when_shown (Err y) is p = absurd (cc)

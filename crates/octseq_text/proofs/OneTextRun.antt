-- If no request for memory is refused, a list of commands has one result.
use Rattle.std.proofs.Common.{◌≡◌, ◌≢◌, ℕ, Bool, false, ◌⊎◌, inl, inr, ⊎_elim, List, [], ◌∷◌}
use Rattle.std.proofs.Common.{◌++◌, length, Option, Some, None, refl, arith, ap, sym, ◌∙◌, subst, length-append}
use Rattle.std.proofs.lemmas.Bool.{cases_lt}
use Rattle.std.proofs.lemmas.Bool.Decides.{same_from_decides}
use Rattle.octseq_core.proofs.Limits.{within_not_past}
use Rattle.octseq_core.specs.Limit.{IsWithin, ExceedsLimit}
use Rattle.octseq_utf8.specs.Encoding.{encoding_of}
use Rattle.octseq_text.specs.TextRun.{AppendsCharacters, CutsTo, Cuts, Pops, TextStep, TextRun, IsWithoutMemory}
use Rattle.octseq_utf8.specs.Text.{chars, octets_of, IsFrontOf}
use Rattle.octseq_text.specs.declared.str.commands.Command.{Command}
use Rattle.octseq_text.specs.declared.str.commands.Command.TheVariants as command
use Rattle.octseq_text.specs.declared.str.commands.Reply.{Reply}
use Rattle.octseq_text.specs.declared.str.commands.Reply.TheVariants as reply
use Rattle.octseq_utf8.proofs.Numbers.{encoding_some}
use Rattle.octseq_text.proofs.Settling.{snoc_same, snoc_some}

-- a reply and the characters after it are the same as others
abbrev Same : Reply → List ℕ → Reply → List ℕ → Type 0
Same r x s y = (r ≡ s) × (x ≡ y)

-- an append that is not refused for memory is either done or short

abbrev IsDone : Option ℕ → List ℕ → List ℕ → Reply → List ℕ → Type 0
IsDone limit before more r after = (r ≡ reply.Done) × IsWithin limit (length (octets_of (before ++ more)))
    × (after ≡ before ++ more)

abbrev IsRefused : Option ℕ → List ℕ → List ℕ → Reply → List ℕ → Type 0
IsRefused limit before more r after = (r ≡ reply.Short) × ExceedsLimit limit (length (octets_of (before ++ more)))
    × (after ≡ before)

done_or_refused : (limit : Option ℕ) (asks : Bool) (b m : List ℕ) (r : Reply) (x : List ℕ)
    → AppendsCharacters limit asks b m r x → r ≢ reply.Memory
    → IsDone limit b m r x ⊎ IsRefused limit b m r x
done_or_refused limit asks b m reply.Done x (w, e) kept = inl (refl, w, e)
done_or_refused limit asks b m reply.Short x (p, e) kept = inr (refl, p, e)
done_or_refused limit asks b m reply.Memory x a kept = absurd (kept refl)
done_or_refused limit asks b m reply.NoBoundary x a kept = absurd a
done_or_refused limit asks b m (reply.Popped c) x a kept = absurd a
done_or_refused limit asks b m (reply.Len n) x a kept = absurd a
done_or_refused limit asks b m (reply.Is t) x a kept = absurd a

one_append : (limit : Option ℕ) (asks other : Bool) (b m : List ℕ) (r s : Reply) (x y : List ℕ)
    → AppendsCharacters limit asks b m r x → AppendsCharacters limit other b m s y
    → r ≢ reply.Memory → s ≢ reply.Memory → Same r x s y
one_append limit asks other b m r s x y a c kept also_kept =
    ⊎_elim
    (λ d. ⊎_elim (λ e. (d.0 ∙ sym e.0, d.2 ∙ sym e.2)) (λ e. absurd (within_not_past limit _ d.1 e.1))
    (done_or_refused limit other b m s y c also_kept))
    (λ d. ⊎_elim (λ e. absurd (within_not_past limit _ e.1 d.1)) (λ e. (d.0 ∙ sym e.0, d.2 ∙ sym e.2))
    (done_or_refused limit other b m s y c also_kept))
    (done_or_refused limit asks b m r x a kept)

-- two fronts with the same number of octets are equal

fronts : (f g y z : List ℕ) → f ++ y ≡ g ++ z → length (octets_of f) ≡ length (octets_of g) → f ≡ g
fronts [] [] y z e long = refl
fronts [] (d ∷ g) y z e long = let n = encoding_some d in
    absurd (omega (arith, length-append (encoding_of d) (octets_of g)))
fronts (c ∷ f) [] y z e long = let n = encoding_some c in
    absurd (omega (arith, length-append (encoding_of c) (octets_of f)))
fronts (c ∷ f) (d ∷ g) y z e long =
    let first : c ≡ d = cc in
    let same : length (encoding_of c) ≡ length (encoding_of d) = ap (λ b. length (encoding_of b)) first in
    let rest : f ≡ g =
    fronts f g y z (cc)
    (omega (arith, length-append (encoding_of c) (octets_of f), length-append (encoding_of d) (octets_of g))) in
    cc

one_front : (b : List ℕ) (n : ℕ) (f g : List ℕ) → IsFrontOf b n f → IsFrontOf b n g → f ≡ g
one_front b n f g p q = fronts f g p.rest q.rest (sym p.joined ∙ q.joined) (p.long ∙ sym q.long)

one_place : (b : List ℕ) (n : ℕ) (x y : List ℕ) → CutsTo n b x → CutsTo n b y → x ≡ y
one_place b n x y p q = ⊎_elim (λ lt. one_front b n x y (p.1 lt) (q.1 lt)) (λ ge. p.0 ge ∙ sym (q.0 ge))
    (cases_lt n (length (octets_of b)))

one_cut : (b : List ℕ) (n : ℕ) (r s : Reply) (x y : List ℕ) → Cuts b n r x → Cuts b n s y → Same r x s y
one_cut b n r s x y (inl p) (inl q) = (p.0 ∙ sym q.0, one_place b n x y p.1 q.1)
one_cut b n r s x y (inl p) (inr q) = absurd (q.2 x (p.1.1 q.1))
one_cut b n r s x y (inr p) (inl q) = absurd (p.2 y (q.1.1 p.1))
one_cut b n r s x y (inr p) (inr q) = (p.0 ∙ sym q.0, p.3 ∙ sym q.3)

one_pop : (b : List ℕ) (p q : Option ℕ) (x y : List ℕ) → Pops b p x → Pops b q y → (p ≡ q) × (x ≡ y)
one_pop b (Some c) (Some d) x y e f = let t = snoc_same x y c d (sym e ∙ f) in (ap Some t.1, t.0)
one_pop b (Some c) None x y e f = absurd (snoc_some x c (sym e ∙ f.0))
one_pop b None (Some d) x y e f = absurd (snoc_some y d (sym f ∙ e.0))
one_pop b None None x y e f = (refl, e.1 ∙ sym f.1)

one_step : (limit : Option ℕ) (asks other : Bool) (b : List ℕ) (c : Command) (r s : Reply) (x y : List ℕ)
    → TextStep limit asks b c r x → TextStep limit other b c s y
    → r ≢ reply.Memory → s ≢ reply.Memory → Same r x s y
one_step limit asks other b (command.PushStr t) r s x y p q kept also_kept =
    one_append limit asks other b (chars t.now) r s x y p q kept also_kept
one_step limit asks other b (command.Push c) r s x y p q kept also_kept =
    one_append limit asks other b (c ∷ []) r s x y p q kept also_kept
one_step limit asks other b (command.Truncate n) r s x y p q kept also_kept = one_cut b n r s x y p q
one_step limit asks other b command.Clear r s x y p q kept also_kept = (p.0 ∙ sym q.0, p.1 ∙ sym q.1)
one_step limit asks other b command.Pop r s x y (c, e, p) (d, f, q) kept also_kept = let t = one_pop b c d x y p q in
    (e ∙ ap (λ z. reply.Popped z) t.0 ∙ sym f, t.1)
one_step limit asks other b command.Len r s x y p q kept also_kept = (p.0 ∙ sym q.0, p.1 ∙ sym q.1)
one_step limit asks other b (command.Is t) r s x y (c, e, p, u) (d, f, q, v) kept also_kept =
    (e ∙ ap (λ z. reply.Is z) (same_from_decides c d p q) ∙ sym f, u ∙ sym v)

-- if memory is never refused, a list of commands on a text has one list of replies, and leaves one text
pub one_run : (limit : Option ℕ) (asks other : Bool) (b : List ℕ) (commands : List Command) (rs ss : List Reply)
    (x y : List ℕ)
    → TextRun limit asks b commands rs x → TextRun limit other b commands ss y → IsWithoutMemory rs → IsWithoutMemory ss
    → (rs ≡ ss) × (x ≡ y)
one_run limit asks other b [] [] [] x y p q kept also_kept = (refl, p ∙ sym q)
one_run limit asks other b [] (r ∷ rs) ss x y p q kept also_kept = absurd p
one_run limit asks other b [] [] (s ∷ ss) x y p q kept also_kept = absurd q
one_run limit asks other b (c ∷ commands) [] ss x y p q kept also_kept = absurd p
one_run limit asks other b (c ∷ commands) (r ∷ rs) [] x y p q kept also_kept = absurd q
one_run limit asks other b (c ∷ commands) (r ∷ rs) (s ∷ ss) x y (m, p, t) (n, q, u) (kept, rest_kept)
    (also_kept, rest_also_kept) =
    let first = one_step limit asks other b c r s m n p q kept also_kept in
    let on : TextRun limit asks n commands rs x = subst (λ z. TextRun limit asks z commands rs x) first.1 t in
    let rest = one_run limit asks other n commands rs ss x y on u rest_kept rest_also_kept in
    let same : r ≡ s = first.0 in
    let others : rs ≡ ss = rest.0 in
    (cc, rest.1)

no_memory : (limit : Option ℕ) (b : List ℕ) (c : Command) (x : List ℕ) → TextStep limit false b c reply.Memory x → ⊥
no_memory limit b (command.PushStr t) x p = let asks = p.1 in cc
no_memory limit b (command.Push c) x p = let asks = p.1 in cc
no_memory limit b (command.Truncate n) x (inl p) = let e = p.0 in cc
no_memory limit b (command.Truncate n) x (inr p) = let e = p.0 in cc
no_memory limit b command.Clear x p = let e = p.0 in cc
no_memory limit b command.Pop x (c, e, p) = cc
no_memory limit b command.Len x p = let e = p.0 in cc
no_memory limit b (command.Is t) x (c, e, p, u) = cc

-- if the type requests no memory, no reply says that a request for memory was refused
pub without_memory : (limit : Option ℕ) (b : List ℕ) (commands : List Command) (rs : List Reply) (x : List ℕ)
    → TextRun limit false b commands rs x → IsWithoutMemory rs
without_memory limit b commands [] x p = tt
without_memory limit b [] (r ∷ rs) x p = absurd p
without_memory limit b (c ∷ commands) (r ∷ rs) x (m, p, t) = (
  (λ e. no_memory limit b c m (subst (λ s. TextStep limit false b c s m) e p)),
  without_memory limit m commands rs x
      t,
)

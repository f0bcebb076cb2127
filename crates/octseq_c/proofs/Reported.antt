-- What calls report about the texts that they write: lossy texts, settled texts and open ends.
use Rattle.std.proofs.Common.{◌≡◌, ℕ, ◌+◌, ◌-◌, ◌<◌, ◌≤◌, ◌^◌, List, [], ◌∷◌, ◌++◌, length, take, drop, refl, arith, ap}
use Rattle.std.proofs.Common.{sym, ◌∙◌, subst, length-append, ◌⊎◌, inl, inr}
use Rattle.std.specs.Prelude.{◌↔◌}
use Rattle.octseq_text.proofs.Piecewise.{beginning_few}
use Rattle.octseq_text.proofs.Settling.{one_settling, settles_end, reads_settles, reads_then, settles_reads}
use Rattle.octseq_text.proofs.Settling.{text-append, reads_none}
use Rattle.octseq_text.specs.Pieces.{Settles, open_end, no_end}
use Rattle.octseq_text.specs.Progress.{IsOpenEnd, HasReadParts}
use Rattle.octseq_utf8.specs.Parts.{IsBeginning, Part, text}
use Rattle.octseq_c.proofs.Placed.{placed_more}
use Rattle.octseq_c.proofs.Wholes.{one_lossy_text, whole_text}
use Rattle.octseq_c.specs.LossyText.{IsLossyText, IsSettledText, IsState, end_text, held}
use Rattle.octseq_c.specs.Puts.{FillsPrefix}
use Rattle.octseq_c.specs.Settled.{IsMeasured, IsPastSize}
use Rattle.octseq_c.specs.declared.pieces.LossyState.{LossyState}

-- a text at the front of a buffer, followed by another
pub fills_both : (old mid new front more : List ℕ) (offset : ℕ) → offset ≡ length front → mid ≡ front ++ drop offset old
    → new ≡ (take offset mid ++ more) ++ drop (offset + length more) mid → FillsPrefix (front ++ more) old new
fills_both old mid new front more offset e m n =
    placed_more old mid new front more offset (sym e) m n
    ∙ ap (λ k. (front ++ more) ++ drop k old) (ap (λ k. k + length more) e ∙ sym (length-append front more))

-- A text within the limit isn't too long.
pub fits : {Is : List ℕ → Type 0} → ((items others : List ℕ) → Is items → Is others → items ≡ others)
    → (items : List ℕ) → Is items → length items < 2 ^ 64
    → ¬ ((made : List ℕ) × Is made × (2 ^ 64 - 1 < length made))
fits one items is few (made, other, long) = omega (arith, ap length (one items made is other))

-- the lossy text of all octets

pub lossy_past : {x : List ℕ} → IsPastSize x 0 → (made : List ℕ) × IsLossyText x made × (2 ^ 64 - 1 < length made)
lossy_past p =
    let past = p.past in (
      text p.settled ++ end_text p.end,
      whole_text p.settles,
      omega (arith, length-append (text p.settled) (end_text p.end)),
    )

pub lossy_made : {x end : List ℕ} {n : ℕ} (m : IsMeasured x 0 n end) (written : List ℕ) → written ≡ end_text end
    → IsLossyText x (text m.settled ++ written)
lossy_made {x} m written e = subst (λ y. IsLossyText x (text m.settled ++ y)) (sym e) (whole_text m.settles)

pub lossy_len : {x end : List ℕ} {n : ℕ} (m : IsMeasured x 0 n end) (written : List ℕ)
    → n + length written ≡ length (text m.settled ++ written)
lossy_len m written = let len = m.text_len in omega (arith, length-append (text m.settled) written)

pub lossy_past_end : {x end : List ℕ} {n : ℕ} → IsMeasured x 0 n end → (written : List ℕ) → written ≡ end_text end
    → ¬ (n + length written < 2 ^ 64) → (made : List ℕ) × IsLossyText x made × (2 ^ 64 - 1 < length made)
lossy_past_end m written e past =
    (text m.settled ++ written, lossy_made m written e, omega (arith, past, lossy_len m written))

pub lossy_fits : {x end : List ℕ} {n : ℕ} → IsMeasured x 0 n end → (written : List ℕ) → written ≡ end_text end
    → n + length written < 2 ^ 64 → ¬ ((made : List ℕ) × IsLossyText x made × (2 ^ 64 - 1 < length made))
lossy_fits m written e few =
    fits (one_lossy_text _) (text m.settled ++ written) (lossy_made m written e)
    (omega (arith, few, lossy_len m written))

-- the text of what is settled

pub one_settled_text : (x made other : List ℕ) → IsSettledText x made → IsSettledText x other → made ≡ other
one_settled_text x made other (settled, end, s, e) (others, last, t, f) = e ∙ ap text (one_settling s t).0 ∙ sym f

-- the state that a call leaves

pub open_or : (q : List ℕ) → IsOpenEnd q → (q ≡ []) ⊎ IsBeginning q
open_or [] o = inl refl
open_or (a ∷ q) o = inr (o (λ e. let long = ap length e in absurd (omega arith)))

pub state_left : {x q : List ℕ} {settled : List Part} (state : LossyState) → Settles x settled q → state.len ≤ 3
    → held state ≡ q → IsState state × ((others : List Part) (end : List ℕ) → Settles x others end → held state ≡ end)
state_left {q = q} state s few e = (
  (few, subst (λ y. (y ≡ []) ⊎ IsBeginning y) (sym e) (open_or q (settles_end s))),
  λ others end t. e ∙ (one_settling s t).1,
)

module _ {x rest first : List ℕ} (r : HasReadParts x rest [] first) where
  -- both are settled in all the octets
  pub both_settle : {settled : List Part} {end : List ℕ} → Settles rest settled end → Settles x (r.parts ++ settled) end
  both_settle {settled} {end} s =
      reads_settles x end (r.parts ++ settled) (reads_then x rest end r.parts settled r.reads (settles_reads s))
      (settles_end s)

  both_made : {settled : List Part} {end : List ℕ} → Settles rest settled end → IsSettledText x (first ++ text settled)
  both_made {settled} {end} s = (
    r.parts ++ settled,
    end,
    both_settle s,
    sym (text-append r.parts settled ∙ ap (λ y. y ++ text settled) (sym r.grown)),
  )

  pub both_past : IsPastSize rest (length first)
      → (made : List ℕ) × IsSettledText x made × (2 ^ 64 - 1 < length made)
  both_past p =
      let past = p.past in
      (first ++ text p.settled, both_made p.settles, omega (arith, length-append first (text p.settled)))

  -- the text of both, and its length
  pub both_text : {n : ℕ} {end : List ℕ} (m : IsMeasured rest (length first) n end)
      → IsSettledText x (first ++ text m.settled) × (n ≡ length (first ++ text m.settled))
  both_text m = (both_made m.settles, m.text_len ∙ sym (length-append first (text m.settled)))

  pub both_fit : {n : ℕ} {end : List ℕ} (m : IsMeasured rest (length first) n end)
      → ¬ ((made : List ℕ) × IsSettledText x made × (2 ^ 64 - 1 < length made))
  both_fit m =
      fits (one_settled_text x) (first ++ text m.settled) (both_text m).0 (omega (arith, (both_text m).1, m.fits))

-- an open end is short
pub end_few : {x q : List ℕ} {settled : List Part} → Settles x settled q → length q ≤ 3
end_few (open_end {end = q} s b) = beginning_few q b
end_few (no_end s n) = omega arith

open_of : (q : List ℕ) → (q ≡ []) ⊎ IsBeginning q → IsOpenEnd q
open_of q (inl none) some = absurd (some none)
open_of q (inr begins) some = begins

all_open : (q : List ℕ) → (q ≡ []) ⊎ IsBeginning q → Settles q [] q
all_open q o = reads_settles q q [] (reads_none q) (open_of q o)

pub is_its_end : (q end : List ℕ) {n : ℕ} → IsMeasured q 0 n end → (end ≡ q) ↔ ((q ≡ []) ⊎ IsBeginning q)
is_its_end q end m = (
  λ e. open_or q (subst IsOpenEnd e (settles_end m.settles)),
  λ o. (one_settling m.settles (all_open q o)).1,
)

pub past_none : (q : List ℕ) → IsPastSize q 0 → ¬ ((q ≡ []) ⊎ IsBeginning q)
past_none q p o = let past = p.past in
    absurd (omega (arith, ap (λ parts. length (text parts)) (one_settling p.settles (all_open q o)).0))

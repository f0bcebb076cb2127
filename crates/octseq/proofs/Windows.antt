-- What is left of a window, and the front of it.
use Rattle.std.proofs.Common.{◌≡◌, ℕ, ◌+◌, ◌-◌, ◌≤◌, List, ◌++◌, take, drop, arith, sym, ap, ◌∙◌}
use Rattle.std.proofs.lemmas.List.{take-take, drop-take, drop-drop}
use Rattle.std.proofs.Math.Seq.{take-add}
use Rattle.std.specs.Prelude.{slice_range}
use Rattle.octseq.specs.Window.{Window, left, rest, next, past}

-- the front of what is left is what comes next
pub next_of_rest : (octets : List ℕ) (position end n : ℕ) → n ≤ end - position
    → take n (slice_range octets position end) ≡ slice_range octets position (position + n)
next_of_rest octets position end n within =
    let same : n ≡ position + n - position = omega arith in
    take-take n (end - position) (drop position octets) within ∙ ap (λ k. take k (drop position octets)) same

-- what comes next followed by what is left after it
pub next_and_rest : (w : Window) (n : ℕ) → n ≤ left w → next n w ++ rest (past n w) ≡ rest w
next_and_rest w n within =
    let ahead = drop w.position w.octets in
    let after = w.end - (w.position + n) in
    let one : w.position + n - w.position ≡ n = omega arith in
    let all : n + after ≡ w.end - w.position = omega arith in
    ap (λ k. take k ahead ++ take after (drop (w.position + n) w.octets)) one
    ∙ ap (λ octets. take n ahead ++ take after octets) (sym (drop-drop n w.position w.octets))
    ∙ sym (take-add n after ahead) ∙ ap (λ k. take k ahead) all

-- what is left after a call is what was left before, without the octets that the call took
pub rest_past : (w v : Window) (n : ℕ) → n ≤ left w → v ≡ past n w → drop n (rest w) ≡ rest v
rest_past w v n within moved =
    let ahead = drop w.position w.octets in
    let after = w.end - (w.position + n) in
    let all : left w ≡ n + after = omega arith in
    ap (λ k. drop n (take k ahead)) all ∙ drop-take n after ahead ∙ ap (take after) (drop-drop n w.position w.octets)
    ∙ ap rest (sym moved)

-- ---- windows cut from another

-- after the next n octets, n fewer are left
pub left_past : (n : ℕ) (w : Window) → left (past n w) ≡ left w - n
left_past n w = omega arith

-- A buffer after one more copy to the offset where its content ended.
use Rattle.std.proofs.Common.{◌≡◌, ℕ, ◌+◌, List, ◌++◌, length, take, drop, arith, ap, sym, ◌∙◌, append_assoc}
use Rattle.std.proofs.Math.Seq.{take-append_seam}
use Rattle.std.proofs.lemmas.List.{length-append}
use Rattle.std.proofs.lemmas.Slice.{drop-append-drop}

-- The front of a buffer was written, and the rest is unchanged. This still holds after a copy to the end of the front.
pub placed_more : {A : Type 0} (old mid new front more : List A) (offset : ℕ) → length front ≡ offset → mid ≡ front
    ++ drop offset old
    → new ≡ (take offset mid ++ more) ++ drop (offset + length more) mid
    → new ≡ (front ++ more) ++ drop (offset + length more) old
placed_more old mid new front more offset l m e =
    let before : take offset mid ≡ front = ap (λ k. take k mid) (sym l) ∙ ap (take (length front)) m
    ∙ take-append_seam front (drop offset old) in
    let kept : drop (offset + length more) mid ≡ drop (offset + length more) old =
    ap (drop (offset + length more)) m ∙ drop-append-drop offset old front (offset + length more) (omega arith) l in
    e ∙ ap (λ y. (y ++ more) ++ drop (offset + length more) mid) before ∙ ap (λ y. (front ++ more) ++ y) kept

-- the same, if the offset after it is given
pub placed_after : {A : Type 0} (old mid new front more : List A) (offset after : ℕ) → length front ≡ offset
    → after ≡ offset + length more → mid ≡ front ++ drop offset old → new ≡ take offset mid ++ (more ++ drop after mid)
    → new ≡ (front ++ more) ++ drop after old
placed_after old mid new front more offset after l a m e =
    placed_more old mid new front more offset l m (e ∙ sym (append_assoc (take offset mid) more (drop after mid))
    ∙ ap (λ k. (take offset mid ++ more) ++ drop k mid) a) ∙ ap (λ k. (front ++ more) ++ drop k old) (sym a)

-- Four lists were written one after another, each to the offset where the one before it ended.
pub four_placed : {A : Type 0} (old r1 r2 r3 r4 q a b d : List A) (n1 n2 n3 n4 : ℕ) → n1 ≡ length q
    → n2 ≡ n1 + length a → n3 ≡ n2 + length b → n4 ≡ n3 + length d → r1 ≡ q ++ drop n1 old
    → r2 ≡ take n1 r1 ++ (a ++ drop n2 r1) → r3 ≡ take n2 r2 ++ (b ++ drop n3 r2)
    → r4 ≡ take n3 r3 ++ (d ++ drop n4 r3)
    → r4 ≡ (q ++ (a ++ (b ++ d))) ++ drop (length (q ++ (a ++ (b ++ d)))) old
four_placed old r1 r2 r3 r4 q a b d n1 n2 n3 n4 e1 e2 e3 e4 m1 m2 m3 m4 =
    let l1 : length q ≡ n1 = sym e1 in
    let p2 = placed_after old r1 r2 q a n1 n2 l1 e2 m1 m2 in
    let l2 : length (q ++ a) ≡ n2 = length-append q a ∙ ap (λ k. k + length a) l1 ∙ sym e2 in
    let p3 = placed_after old r2 r3 (q ++ a) b n2 n3 l2 e3 p2 m3 in
    let l3 : length ((q ++ a) ++ b) ≡ n3 = length-append (q ++ a) b ∙ ap (λ k. k + length b) l2 ∙ sym e3 in
    let p4 = placed_after old r3 r4 ((q ++ a) ++ b) d n3 n4 l3 e4 p3 m4 in
    let l4 : length (((q ++ a) ++ b) ++ d) ≡ n4 =
    length-append ((q ++ a) ++ b) d ∙ ap (λ k. k + length d) l3 ∙ sym e4 in
    p4 ∙ ap (λ k. (((q ++ a) ++ b) ++ d) ++ drop k old) (sym l4)
    ∙ ap (λ y. y ++ drop (length y) old) (append_assoc (q ++ a) b d ∙ append_assoc q a (b ++ d))

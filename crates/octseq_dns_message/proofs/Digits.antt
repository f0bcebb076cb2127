-- Numbers that are read at once: each is some digits of one number.
use Rattle.std.proofs.Common.{◌≡◌, ℕ, ◌+◌, ◌-◌, ◌*◌, ◌/◌, ◌%◌, ◌<◌, ◌≤◌, [], ◌∷◌, take, drop, refl, sym, ap, ◌∙◌}
use Rattle.std.proofs.Common.{subst, arith}
use Rattle.std.proofs.lemmas.List.{take-take, drop-take, drop-drop}
use Rattle.octseq.specs.Integer.{be, octets_be}
use Rattle.octseq.specs.Window.{Window, left, next, at, past}
use Rattle.octseq.proofs.Windows.{next_of_rest}
use Rattle.octseq_dns_data.specs.Format.{IsData}
use Rattle.octseq_dns_message.specs.Entry.{IsAfterName, IsAfterOwner}
use Rattle.octseq_format.specs.Laws.{NoneAt}

-- the number of two octets, and of four
be_two : (a b : ℕ) → be (a ∷ b ∷ []) ≡ a * 256 + b
unfolding be
be_two a b = omega arith

be_four : (a b c d : ℕ) → be (a ∷ b ∷ c ∷ d ∷ []) ≡ a * 16777216 + b * 65536 + c * 256 + d
unfolding be
be_four a b c d = omega arith

-- the first n of the next k octets come next
front_of : (k n : ℕ) (w : Window) → n ≤ k → next n w ≡ take n (next k w)
front_of k n w few = sym (next_of_rest w.octets w.position (w.position + k) n (omega (arith, few)))

-- and n of them come next past i others
part_of : (k i n : ℕ) (w : Window) → i + n ≤ k → next n (past i w) ≡ take n (drop i (next k w))
part_of k i n w few =
    let ahead = drop w.position w.octets in
    let one : w.position + i + n - (w.position + i) ≡ n = omega arith in
    let all : w.position + k - w.position ≡ i + (k - i) = omega (arith, few) in
    ap (λ m. take m (drop (w.position + i) w.octets)) one ∙ ap (take n) (sym (drop-drop i w.position w.octets))
    ∙ sym (take-take n (k - i) (drop i ahead) (omega (arith, few))) ∙ ap (take n) (sym (drop-take i (k - i) ahead))
    ∙ ap (λ m. take n (drop i (take m ahead))) (sym all)

-- If there are four octets, there are two numbers of two octets.
pub two_numbers : (w v : Window) (n : ℕ) → 4 ≤ left w → n < 4294967296 → octets_be 4 n ≡ next 4 w → v ≡ past 4 w
    → IsAfterName w (n / 65536, n % 65536) v
unfolding octets_be
two_numbers w v n room small is after =
    let first = ap be (front_of 4 2 w (omega arith) ∙ ap (take 2) (sym is)) ∙ be_two _ _ in
    let second = ap be (part_of 4 2 2 w (omega arith) ∙ ap (λ xs. take 2 (drop 2 xs)) (sym is)) ∙ be_two _ _ in
    let there : w.position + 4 ≡ w.position + 2 + 2 = omega arith in (
      past 2 w,
      (omega (arith, room), omega (arith, small, first), refl),
      (omega (arith, room), omega (arith, second), after ∙ ap (λ p. at p w) there),
    )

-- otherwise there aren't
pub no_two_numbers : (w : Window) → ¬ (4 ≤ left w) → NoneAt IsAfterName w
no_two_numbers w short numbers v is =
    let first = is.1.0 in
    let there = ap left is.1.2 in
    let second = is.2.0 in
    omega (arith, short, first, there, second)

-- If there are eight octets, followed by data, there are two numbers of two octets, one of four, and the data.
pub three_numbers : (w u v rdata : Window) (n : ℕ) → 8 ≤ left w → n < 18446744073709551616 → octets_be 8 n ≡ next 8 w
    → u ≡ past 8 w → IsData u rdata v
    → IsAfterOwner w (n / 281474976710656, (n / 4294967296 % 65536, (n % 4294967296, rdata))) v
unfolding octets_be
three_numbers w u v rdata n room small is after kept =
    let first = ap be (front_of 8 2 w (omega arith) ∙ ap (take 2) (sym is)) ∙ be_two _ _ in
    let second = ap be (part_of 8 2 2 w (omega arith) ∙ ap (λ xs. take 2 (drop 2 xs)) (sym is)) ∙ be_two _ _ in
    let here : w.position + 2 + 2 ≡ w.position + 4 = omega arith in
    let third = ap (λ p. be (next 4 (at p w))) here
    ∙ ap be (part_of 8 4 4 w (omega arith) ∙ ap (λ xs. take 4 (drop 4 xs)) (sym is)) ∙ be_four _ _ _ _ in
    let there : w.position + 8 ≡ w.position + 2 + 2 + 4 = omega arith in (
      past 2 w,
      (omega (arith, room), omega (arith, small, first), refl),
      (
        past 2 (past 2 w),
        (omega (arith, room), omega (arith, second), refl),
        (u, (omega (arith, room), omega (arith, third), after ∙ ap (λ p. at p w) there), kept),
      ),
    )

-- otherwise there aren't: fewer octets are left, or no data follows them
pub no_three_numbers : (w : Window) → ¬ (8 ≤ left w) → NoneAt IsAfterOwner w
no_three_numbers w short numbers v is =
    let first = is.1.0 in
    let there = ap left is.1.2 in
    let second = is.2.1.0 in
    let then = ap left is.2.1.2 in
    let third = is.2.2.1.0 in
    omega (arith, short, first, there, second, then, third)

pub no_data_after : (w u : Window) → u ≡ past 8 w → NoneAt IsData u → NoneAt IsAfterOwner w
no_data_after w u after none numbers v is =
    let there : w.position + 2 + 2 + 4 ≡ w.position + 8 = omega arith in
    let same = is.2.2.1.2 ∙ ap (past 4) (is.2.1.2 ∙ ap (past 2) is.1.2) ∙ ap (λ p. at p w) there ∙ sym after in
    none numbers.1.1.1 v (subst (λ u. IsData u numbers.1.1.1 v) same is.2.2.2)

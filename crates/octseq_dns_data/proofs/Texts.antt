-- The text of data, piece by piece.
use Rattle.std.proofs.Common.{◌≡◌, ℕ, zero, suc, ◌+◌, ◌<◌, ◌≤◌, Bool, true, false, if◌then◌else◌, nat_le, nat_lt}
use Rattle.std.proofs.Common.{◌==◌, List, [], ◌∷◌, ◌++◌, length, take, drop, get_or, replicate, codes, bytes_eq, refl}
use Rattle.std.proofs.Common.{sym, ap, subst, arith}
use Rattle.std.proofs.lemmas.Bool.{leb-true, leb-false, false_from_ne_true}
use Rattle.std.proofs.lemmas.Bool.Decides.{Decides-eqb}
use Rattle.std.proofs.lemmas.Slice.Eq.{bytes_eq-Decides}
use Rattle.std.specs.Net.Addr.{IsIpv4Mapped, segments_of}
use Rattle.std.specs.Net.Text.{groups_text, hex_groups_text, ipv6_text, longest_zero_run, zero_run}
use Rattle.octseq_dns_data.specs.DataText.{AreZero, IsFirstLongest, IsGroupsText}
use Rattle.octseq.specs.OctetsText.{ipv6_address_text}
use Rattle.octseq.specs.OctetsText.{is_compatible}

-- ---- the first longest run of zero groups

zeros_at_front : (xs : List ℕ) → take (zero_run xs) xs ≡ replicate (zero_run xs) 0
zeros_at_front [] = refl
zeros_at_front (zero ∷ xs) =
    let one_more : suc (zero_run xs) ≡ 1 + zero_run xs = omega arith in
    subst (λ n. take n (0 ∷ xs) ≡ replicate n 0) one_more (ap (λ zeros. 0 ∷ zeros) (zeros_at_front xs))
zeros_at_front (suc x ∷ xs) =
    let other = false_from_ne_true (suc x == 0)
    (λ reported. let is = (Decides-eqb (suc x) 0).0 reported in omega (arith, is)) in
    subst (λ zero. take (if zero then 1 + zero_run xs else 0) (suc x ∷ xs)
    ≡ replicate (if zero then 1 + zero_run xs else 0) 0) (sym other) refl

-- a run of zeros at the front isn't longer than this
most_at_front : (xs : List ℕ) (size : ℕ) → take size xs ≡ replicate size 0 → size ≤ zero_run xs
most_at_front xs zero is = omega arith
most_at_front [] (suc size) is = let long = ap length is in absurd (omega (arith, long))
most_at_front (zero ∷ xs) (suc size) is = let more = most_at_front xs size (ap (drop 1) is) in omega (arith, more)
most_at_front (suc x ∷ xs) (suc size) is = let head = ap (λ l. get_or l 0 0) is in absurd (omega (arith, head))

none_in_none : (other size : ℕ) → AreZero [] other size → size ≤ 0
none_in_none zero size is = most_at_front [] size is
none_in_none (suc other) size is = most_at_front [] size is

-- a run at the front that is as long as any after it
at_front : (x : ℕ) (xs : List ℕ) (start len : ℕ) → IsFirstLongest xs start len → len ≤ zero_run (x ∷ xs)
    → IsFirstLongest (x ∷ xs) 0 (zero_run (x ∷ xs))
at_front x xs start len after long =
    record { zeros = zeros_at_front (x ∷ xs); longest = longest; first = λ other is. omega arith }
  where
    longest : (other size : ℕ) → AreZero (x ∷ xs) other size → size ≤ zero_run (x ∷ xs)
    longest zero size is = most_at_front (x ∷ xs) size is
    longest (suc other) size is = let most = after.longest other size is in omega (arith, long, most)

-- and a longer one after it
further : (x : ℕ) (xs : List ℕ) (start len : ℕ) → IsFirstLongest xs start len → zero_run (x ∷ xs) < len
    → IsFirstLongest (x ∷ xs) (start + 1) len
further x xs start len after short =
    record { zeros = subst (λ n. AreZero (x ∷ xs) n len) one_more after.zeros; longest = longest; first = first }
  where
    one_more : suc start ≡ start + 1
    one_more = omega arith

    longest : (other size : ℕ) → AreZero (x ∷ xs) other size → size ≤ len
    longest zero size is = let most = most_at_front (x ∷ xs) size is in omega (arith, short, most)
    longest (suc other) size is = after.longest other size is

    first : (other : ℕ) → AreZero (x ∷ xs) other len → start + 1 ≤ other
    first zero is = let most = most_at_front (x ∷ xs) len is in absurd (omega (arith, short, most))
    first (suc other) is = let before = after.first other is in omega (arith, before)

chosen : (x : ℕ) (xs : List ℕ) (later : ℕ × ℕ) → IsFirstLongest xs later.0 later.1 → (at_once : Bool)
    → (at_once ≡ true → later.1 ≤ zero_run (x ∷ xs)) → (at_once ≡ false → zero_run (x ∷ xs) < later.1)
    → let run : ℕ × ℕ = if at_once then (0, zero_run (x ∷ xs)) else (later.0 + 1, later.1) in
    IsFirstLongest (x ∷ xs) run.0 run.1
chosen x xs later after true long short = at_front x xs later.0 later.1 after (long refl)
chosen x xs later after false long short = further x xs later.0 later.1 after (short refl)

first_longest : (xs : List ℕ) → IsFirstLongest xs (longest_zero_run xs).0 (longest_zero_run xs).1
first_longest [] = record { zeros = refl; longest = none_in_none; first = λ other is. omega arith }
first_longest (x ∷ xs) =
    let later = longest_zero_run xs in
    chosen x xs later (first_longest xs) (nat_le later.1 (zero_run (x ∷ xs))) (leb-true later.1 (zero_run (x ∷ xs)))
    (leb-false later.1 (zero_run (x ∷ xs)))

-- ---- the text of an IPv6 address

compressed : (groups : List ℕ) (run : ℕ × ℕ) → IsFirstLongest groups run.0 run.1 → (some : Bool)
    → (some ≡ true → 1 < run.1) → (some ≡ false → run.1 ≤ 1)
    → IsGroupsText groups (if some then groups_text (take run.0 groups) ++ codes "::"
    ++ groups_text (drop (run.0 + run.1) groups) else groups_text groups)
compressed groups run is true more few = let two = more refl in record {
  start = run.0;
  len = run.1;
  run = is;
  shortened = λ _. refl;
  plain = λ one. absurd (omega (arith, two, one));
}
compressed groups run is false more few = let one = few refl in record {
  start = run.0;
  len = run.1;
  run = is;
  shortened = λ two. absurd (omega (arith, two, one));
  plain = λ _. refl;
}

groups_are_text : (groups : List ℕ) → IsGroupsText groups (hex_groups_text groups)
unfolding hex_groups_text
groups_are_text groups =
    let run = longest_zero_run groups in
    compressed groups run (first_longest groups) (nat_lt 1 run.1) (λ reported. omega (arith, leb-true 2 run.1 reported))
    (λ reported. omega (arith, leb-false 2 run.1 reported))

-- an IPv6 address that isn't shown with an IPv4 address is shown as the text of its groups
pub address_is_text : (octets : List ℕ) → (is_compatible octets ≡ true → ⊥) → (IsIpv4Mapped (segments_of octets) → ⊥)
    → IsGroupsText (segments_of octets) (ipv6_address_text octets)
unfolding ipv6_text
address_is_text octets compatible mapped =
    let groups = segments_of octets in
    let front = 0 ∷ 0 ∷ 0 ∷ 0 ∷ 0 ∷ 0xffff ∷ [] in
    let no_tail = false_from_ne_true (is_compatible octets) compatible in
    let no_front = false_from_ne_true (bytes_eq (take 6 groups) front) (λ reported. mapped
    ((bytes_eq-Decides (take 6 groups) front).0 reported)) in
    rw (no_tail, no_front) (groups_are_text groups)

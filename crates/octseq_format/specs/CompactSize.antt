-- Bitcoin's CompactSize.
use Rattle.std.specs.Prelude.{◌≡◌, ℕ, suc, Bool, true, false, ◌<◌, ◌≤◌, ◌^◌, List, [], ◌∷◌, drop, length}
use Rattle.std.specs.Prelude.{slice_index, nat_lt, if◌then◌else◌, refl}
use Rattle.std.proofs.Common.{ap, sym, ◌∙◌, arith}
use Rattle.std.proofs.lemmas.Bool.{ltb-true, lt-ltb, le-ltb}
use Rattle.octseq.specs.Integer.{le, octets_le}
use Rattle.octseq.proofs.Written.{length_le, value_le}
use Rattle.octseq_format.specs.Choice.{by_test, first_of_two, second_of_two}
use Rattle.octseq_format.specs.Varying.{IsAsLong, AreEncodingsApart, AreRead, apart_long}

-- how many octets the first one says there are
unfoldable pub compact_long : ℕ → ℕ
compact_long first =
    if nat_lt first 253 then 1 else (if nat_lt first 254 then 3 else (if nat_lt first 255 then 5 else 9))

-- the number that octets say: a first one below 253 is the number, otherwise those after it are, little-endian
unfoldable pub compact_size : List ℕ → ℕ
compact_size octets = if nat_lt (slice_index octets 0) 253 then slice_index octets 0 else le (drop 1 octets)

-- the fewest octets that say a number
unfoldable pub compact_octets : ℕ → List ℕ
compact_octets n =
    if nat_lt n 253 then n ∷ [] else (if nat_lt n (2 ^ 16) then 253 ∷ octets_le 2 n else
    (if nat_lt n (2 ^ 32) then 254 ∷ octets_le 4 n else 255 ∷ octets_le 8 n))

-- a number of 64 bits
abbrev pub CompactFits : ℕ → Type 0
CompactFits n = n < 2 ^ 64

abbrev CompactEncodes : ℕ → List ℕ → Type 0
CompactEncodes n xs = IsAsLong compact_long xs × (compact_size xs ≡ n)

-- ---- lemmas: proved below this line, so what the words mean is read above it

-- ---- laws
pub some_compact : (first : ℕ) → 0 < compact_long first
unfolding compact_long
some_compact first =
    by_test (λ n. 0 < n) (nat_lt first 253) 1 _ (λ _. omega arith)
    (λ _. by_test (λ n. 0 < n) (nat_lt first 254) 3 _ (λ _. omega arith)
    (λ _. by_test (λ n. 0 < n) (nat_lt first 255) 5 9 (λ _. omega arith) (λ _. omega arith)))

pub apart_compact : AreEncodingsApart (IsAsLong compact_long)
apart_compact = apart_long compact_long some_compact

-- a first octet below 253 is alone
pub compact_alone : (first : ℕ) → first < 253 → compact_long first ≡ 1
unfolding compact_long
compact_alone first few = first_of_two _ _ (lt-ltb first 253 few)

-- and is the number
pub compact_itself : (xs : List ℕ) → slice_index xs 0 < 253 → compact_size xs ≡ slice_index xs 0
unfolding compact_size
compact_itself xs few = first_of_two _ _ (lt-ltb (slice_index xs 0) 253 few)

-- any other is followed by the number
pub compact_followed : (xs : List ℕ) → 253 ≤ slice_index xs 0 → compact_size xs ≡ le (drop 1 xs)
unfolding compact_size
compact_followed xs large = second_of_two _ _ (le-ltb (slice_index xs 0) 253 large)

small : (n : ℕ) → n < 253 → CompactEncodes n (n ∷ [])
small n few = (sym (compact_alone n few), compact_itself (n ∷ []) few)

after : (first k n : ℕ) → 253 ≤ first → compact_long first ≡ suc k → n < 256 ^ k
    → CompactEncodes n (first ∷ octets_le k n)
after first k n large long fits =
    (ap suc (length_le k n) ∙ sym long, compact_followed (first ∷ octets_le k n) large ∙ value_le k n fits)

compact_encodes : (n : ℕ) → CompactFits n → CompactEncodes n (compact_octets n)
unfolding compact_octets compact_long
compact_encodes n fits =
    by_test (CompactEncodes n) (nat_lt n 253) _ _ (λ yes. small n (ltb-true n 253 yes))
    (λ _. by_test (CompactEncodes n) (nat_lt n (2 ^ 16)) _ _
    (λ yes. after 253 2 n (omega arith) refl (ltb-true n (2 ^ 16) yes))
    (λ _. by_test (CompactEncodes n) (nat_lt n (2 ^ 32)) _ _
    (λ yes. after 254 4 n (omega arith) refl (ltb-true n (2 ^ 32) yes))
    (λ _. after 255 8 n (omega arith) refl fits)))

pub read_compact : AreRead (IsAsLong compact_long) compact_size compact_octets CompactFits
read_compact = record { whole = λ n fits. (compact_encodes n fits).0; back = λ n fits. (compact_encodes n fits).1 }

-- ---- the octets of a number, by its size
pub compact_octets_1 : (n : ℕ) → n < 253 → compact_octets n ≡ n ∷ []
unfolding compact_octets
compact_octets_1 n few = first_of_two _ _ (lt-ltb n 253 few)

pub compact_octets_3 : (n : ℕ) → 253 ≤ n → n < 2 ^ 16 → compact_octets n ≡ 253 ∷ octets_le 2 n
unfolding compact_octets
compact_octets_3 n large few = second_of_two _ _ (le-ltb n 253 large) ∙ first_of_two _ _ (lt-ltb n (2 ^ 16) few)

pub compact_octets_5 : (n : ℕ) → 2 ^ 16 ≤ n → n < 2 ^ 32 → compact_octets n ≡ 254 ∷ octets_le 4 n
unfolding compact_octets
compact_octets_5 n large few =
    second_of_two _ _ (le-ltb n 253 (omega (arith, large))) ∙ second_of_two _ _ (le-ltb n (2 ^ 16) large)
    ∙ first_of_two _ _ (lt-ltb n (2 ^ 32) few)

pub compact_octets_9 : (n : ℕ) → 2 ^ 32 ≤ n → compact_octets n ≡ 255 ∷ octets_le 8 n
unfolding compact_octets
compact_octets_9 n large =
    second_of_two _ _ (le-ltb n 253 (omega (arith, large)))
    ∙ second_of_two _ _ (le-ltb n (2 ^ 16) (omega (arith, large))) ∙ second_of_two _ _ (le-ltb n (2 ^ 32) large)

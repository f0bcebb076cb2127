-- The values of octets, as std computes them.
use Rattle.std.proofs.Common.{◌≡◌, ℕ, zero, suc, ◌-◌, ◌*◌, ◌^◌, ◌<◌, ◌≤◌, List, []}
use Rattle.std.proofs.Common.{◌∷◌, ◌++◌, length, refl, sym, ap, ◌∙◌, zero-add, arith}
use Rattle.std.proofs.lemmas.Int.{ints}
use Rattle.std.specs.Prelude.{slice_index}
use Rattle.std.specs.Int.{w8, w16, w32, w64, w128, from_be_bytes, from_le_bytes, cast_signed, byte_worth, sum_through}
use Rattle.octseq.specs.Integer.{sum_of_first, be, le, signed}
use Rattle.octseq.proofs.Written.{be_cons, le_snoc}

-- the value of an octet in std, by its place
worth : (i b : ℕ) → byte_worth i b ≡ b * 256 ^ i
worth zero b = omega arith
worth (suc i) b = refl

-- std's sum, of k + 1 terms
sum_is : (f g : ℕ → ℕ) (k : ℕ) → ((i : ℕ) → i ≤ k → f i ≡ g i) → sum_through f k ≡ sum_of_first (suc k) g
sum_is f g zero same = same 0 (omega arith) ∙ sym (zero-add (g 0))
sum_is f g (suc k) same =
    let before : sum_through f k ≡ sum_of_first (suc k) g = sum_is f g k (λ i l. same i (omega arith)) in
    let last : f (suc k) ≡ g (suc k) = same (suc k) (omega arith) in
    cc

-- k + 1 octets, little-endian and big-endian

le_is : (k : ℕ) (xs : List ℕ) → length xs ≡ suc k → sum_through (λ i. byte_worth i (slice_index xs i)) k ≡ le xs
unfolding le
le_is k xs e = rw e (sum_is _ _ k (λ i _. worth i (slice_index xs i)))

be_is : (k : ℕ) (xs : List ℕ) → length xs ≡ suc k → sum_through (λ i. byte_worth (k - i) (slice_index xs i)) k ≡ be xs
unfolding be
be_is k xs e = rw e (sum_is _ _ k (λ i _.
    let same : k - i ≡ suc k - 1 - i = omega arith in
    worth (k - i) (slice_index xs i) ∙ ap (λ e. slice_index xs i * 256 ^ e) same))

-- the widths that integers have

-- what std reads from one octet, big-endian, is their value
pub be_1 : (xs : List ℕ) → length xs ≡ 1 → slice_index xs 0 ≡ be xs
be_1 xs e = be_is 0 xs e

-- what std reads from 2 octets, big-endian, is their value
pub be_2 : (xs : List ℕ) → length xs ≡ 2 → from_be_bytes w16 xs ≡ be xs
be_2 xs e = be_is 1 xs e

-- what std reads from 2 octets, little-endian, is their value
pub le_2 : (xs : List ℕ) → length xs ≡ 2 → from_le_bytes w16 xs ≡ le xs
le_2 xs e = le_is 1 xs e

-- what std reads from 4 octets, big-endian, is their value
pub be_4 : (xs : List ℕ) → length xs ≡ 4 → from_be_bytes w32 xs ≡ be xs
be_4 xs e = be_is 3 xs e

-- what std reads from 4 octets, little-endian, is their value
pub le_4 : (xs : List ℕ) → length xs ≡ 4 → from_le_bytes w32 xs ≡ le xs
le_4 xs e = le_is 3 xs e

-- what std reads from 8 octets, big-endian, is their value
pub be_8 : (xs : List ℕ) → length xs ≡ 8 → from_be_bytes w64 xs ≡ be xs
be_8 xs e = be_is 7 xs e

-- what std reads from 8 octets, little-endian, is their value
pub le_8 : (xs : List ℕ) → length xs ≡ 8 → from_le_bytes w64 xs ≡ le xs
le_8 xs e = le_is 7 xs e

-- what std reads from 16 octets, big-endian, is their value
pub be_16 : (xs : List ℕ) → length xs ≡ 16 → from_be_bytes w128 xs ≡ be xs
be_16 xs e = be_is 15 xs e

-- what std reads from 16 octets, little-endian, is their value
pub le_16 : (xs : List ℕ) → length xs ≡ 16 → from_le_bytes w128 xs ≡ le xs
le_16 xs e = le_is 15 xs e

-- ---- 3 octets and 6 octets, with zeros as the most significant

be_zero : (xs : List ℕ) → be (0 ∷ xs) ≡ be xs
be_zero xs = be_cons 0 xs ∙ omega arith

le_zero : (xs : List ℕ) → le (xs ++ 0 ∷ []) ≡ le xs
le_zero xs = le_snoc xs 0 ∙ omega arith

-- three octets, one by one
abbrev pub first_3 : List ℕ → List ℕ
first_3 xs = slice_index xs 0 ∷ slice_index xs 1 ∷ slice_index xs 2 ∷ []

are_first_3 : (xs : List ℕ) → length xs ≡ 3 → first_3 xs ≡ xs
are_first_3 [] many = absurd (omega arith)
are_first_3 (a ∷ []) many = absurd (omega arith)
are_first_3 (a ∷ b ∷ []) many = absurd (omega arith)
are_first_3 (a ∷ b ∷ c ∷ []) many = refl
are_first_3 (a ∷ b ∷ c ∷ d ∷ xs) many = absurd (omega arith)

-- six octets, one by one
abbrev pub first_6 : List ℕ → List ℕ
first_6 xs = slice_index xs 0 ∷ slice_index xs 1 ∷ slice_index xs 2 ∷ slice_index xs 3 ∷ slice_index xs 4 ∷ slice_index
    xs 5 ∷ []

are_first_6 : (xs : List ℕ) → length xs ≡ 6 → first_6 xs ≡ xs
are_first_6 [] many = absurd (omega arith)
are_first_6 (a ∷ []) many = absurd (omega arith)
are_first_6 (a ∷ b ∷ []) many = absurd (omega arith)
are_first_6 (a ∷ b ∷ c ∷ []) many = absurd (omega arith)
are_first_6 (a ∷ b ∷ c ∷ d ∷ []) many = absurd (omega arith)
are_first_6 (a ∷ b ∷ c ∷ d ∷ e ∷ []) many = absurd (omega arith)
are_first_6 (a ∷ b ∷ c ∷ d ∷ e ∷ f ∷ []) many = refl
are_first_6 (a ∷ b ∷ c ∷ d ∷ e ∷ f ∷ g ∷ xs) many = absurd (omega arith)

-- what std reads from 3 octets, big-endian, is their value
pub be_3 : (xs : List ℕ) → length xs ≡ 3 → from_be_bytes w32 (0 ∷ first_3 xs) ≡ be xs
be_3 xs e = be_4 (0 ∷ first_3 xs) refl ∙ be_zero (first_3 xs) ∙ ap be (are_first_3 xs e)

-- what std reads from 3 octets, little-endian, is their value
pub le_3 : (xs : List ℕ) → length xs ≡ 3 → from_le_bytes w32 (first_3 xs ++ 0 ∷ []) ≡ le xs
le_3 xs e = le_4 (first_3 xs ++ 0 ∷ []) refl ∙ le_zero (first_3 xs) ∙ ap le (are_first_3 xs e)

-- what std reads from 6 octets, big-endian, is their value
pub be_6 : (xs : List ℕ) → length xs ≡ 6 → from_be_bytes w64 (0 ∷ 0 ∷ first_6 xs) ≡ be xs
be_6 xs e = be_8 (0 ∷ 0 ∷ first_6 xs) refl ∙ be_zero (0 ∷ first_6 xs) ∙ be_zero (first_6 xs) ∙ ap be (are_first_6 xs e)

-- what std reads from 6 octets, little-endian, is their value
pub le_6 : (xs : List ℕ) → length xs ≡ 6 → from_le_bytes w64 (first_6 xs ++ 0 ∷ 0 ∷ []) ≡ le xs
le_6 xs e = le_8 (first_6 xs ++ 0 ∷ 0 ∷ []) refl ∙ le_zero (first_6 xs ++ 0 ∷ []) ∙ le_zero (first_6 xs)
    ∙ ap le (are_first_6 xs e)

-- ---- signed integers

-- std casts 8 bits to the signed value of one octet
pub signed_1 : (n : ℕ) → n < 2 ^ 8 → cast_signed w8 n ≡ signed 1 n
unfolding signed
signed_1 n small = grind (arith, ints)

-- std casts 16 bits to the signed value of 2 octets
pub signed_2 : (n : ℕ) → n < 2 ^ 16 → cast_signed w16 n ≡ signed 2 n
unfolding signed
signed_2 n small = grind (arith, ints)

-- std casts 32 bits to the signed value of 4 octets
pub signed_4 : (n : ℕ) → n < 2 ^ 32 → cast_signed w32 n ≡ signed 4 n
unfolding signed
signed_4 n small = grind (arith, ints)

-- std casts 64 bits to the signed value of 8 octets
pub signed_8 : (n : ℕ) → n < 2 ^ 64 → cast_signed w64 n ≡ signed 8 n
unfolding signed
signed_8 n small = grind (arith, ints)

-- std casts 128 bits to the signed value of 16 octets
pub signed_16 : (n : ℕ) → n < 2 ^ 128 → cast_signed w128 n ≡ signed 16 n
unfolding signed
signed_16 n small = grind (arith, ints)

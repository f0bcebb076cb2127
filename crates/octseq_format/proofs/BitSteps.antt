-- Powers of two, as the sizes of bits.
use Rattle.std.proofs.Common.{◌≡◌, ℕ, ◌+◌, ◌*◌, ◌/◌, ◌<◌, ◌≤◌, ◌^◌, ap, arith}
use Rattle.std.specs.Prelude.{◌%◌}
use Rattle.std.proofs.Math.Nat.{pow-le-pow_right, lt-div-mul-add, one-le-pow}
use Rattle.std.proofs.lemmas.Nat.{pow-add, div-mul-add, mod-mul-add, mod_below}

-- numbers of 64 bits or more don't fit a `usize`
pub long_power : (bits : ℕ) → 64 ≤ bits → 2 ^ 64 ≤ 2 ^ bits
long_power bits long = pow-le-pow_right (omega arith) long

-- nor do those with more bits
pub more_above : (a b : ℕ) → 2 ^ 64 ≤ 2 ^ a → 2 ^ 64 ≤ 2 ^ (a + b)
more_above a b big =
    let more : 2 ^ a ≤ 2 ^ (a + b) = pow-le-pow_right (omega arith) (omega arith) in
    omega (arith, big, more)

pub more_below : (a b : ℕ) → 2 ^ 64 ≤ 2 ^ b → 2 ^ 64 ≤ 2 ^ (a + b)
more_below a b big =
    let more : 2 ^ b ≤ 2 ^ (a + b) = pow-le-pow_right (omega arith) (omega arith) in
    omega (arith, big, more)

-- how many numbers both have together
pub both_size : (a b : ℕ) → 2 ^ (a + b) ≡ 2 ^ a * 2 ^ b
both_size a b = pow-add 2 a b

-- a number without upper bits
pub none_above : (n bits : ℕ) → n / 2 ^ bits ≡ 0 → n < 2 ^ bits
none_above n bits none =
    let size = 2 ^ bits in
    let below : n < n / size * size + size = lt-div-mul-add (one-le-pow bits 2 (omega arith)) in
    let zero = ap (λ m. m * size) none in
    omega (arith, below, zero)

pub some_power : (bits : ℕ) → 0 < 2 ^ bits
some_power bits = one-le-pow bits 2 (omega arith)

-- the parts of what two parts make up
pub high_cut : (high low bits : ℕ) → low < 2 ^ bits → (high * 2 ^ bits + low) / 2 ^ bits ≡ high
high_cut high low bits small = div-mul-add high (2 ^ bits) low small

pub low_cut : (high low bits : ℕ) → low < 2 ^ bits → (high * 2 ^ bits + low) % 2 ^ bits ≡ low
low_cut high low bits small = mod-mul-add high (2 ^ bits) low small

-- the lowest bits are below the power
pub low_below : (n low bits : ℕ) → 2 ^ bits ≤ low → ¬ (n % 2 ^ bits ≡ low)
low_below n low bits big same =
    let below = mod_below n (2 ^ bits) (some_power bits) in
    omega (arith, below, big, same)

pub ruleset cut_bits = (high_cut, low_cut, low_below)

-- The CRC of a chunk: the remainder of its bits, the lowest of each octet first, by a polynomial of degree 32.
use Rattle.std.specs.Prelude.{ℕ, ◌/◌, ◌%◌, cond, nat_eq, List, fold, bit_xor}

-- the remainder of one bit more
unfoldable pub shifted : ℕ → ℕ
shifted remainder = cond (nat_eq (remainder % 2) 1) (bit_xor (remainder / 2) 3988292384) (remainder / 2)

-- of an octet more
unfoldable pub stepped : ℕ → ℕ → ℕ
stepped remainder octet =
    let four = shifted (shifted (shifted (shifted (bit_xor remainder octet)))) in
    shifted (shifted (shifted (shifted four)))

-- the CRC of octets
unfoldable pub crc : List ℕ → ℕ
crc octets = bit_xor (fold stepped 4294967295 octets) 4294967295

-- The address of a prefix: bits after its length have no meaning, and are 0 (RFC 4271, 4.3).
use Rattle.std.specs.Prelude.{ℕ, zero, suc, ◌+◌, ◌-◌, ◌*◌, ◌/◌, ◌^◌, min, List, [], ◌∷◌, slice_index}

-- how many bits of the octet at an index come after the first `bits` bits
abbrev pub bits_after : ℕ → ℕ → ℕ
bits_after bits i = min 8 (8 * (i + 1) - bits)

-- the octet with its last z bits cleared
abbrev pub cleared : ℕ → ℕ → ℕ
cleared z octet = octet / 2 ^ z * 2 ^ z

-- n octets of an address from an index on: the octets of the prefix, or 0 past its end, with the bits after its length
-- cleared
abbrev pub address_from : ℕ → ℕ → ℕ → List ℕ → List ℕ
address_from zero i bits octets = []
address_from (suc n) i bits octets =
    cleared (bits_after bits i) (slice_index octets i) ∷ address_from n (i + 1) bits octets

-- the address of a prefix, in sixteen octets
abbrev pub prefix_address : ℕ → List ℕ → List ℕ
prefix_address = address_from 16 0

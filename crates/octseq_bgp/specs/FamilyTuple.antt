-- Address families with flags, as capabilities list them: RFC 4724, 3, and RFC 7911, 4.
use Rattle.std.specs.Prelude.{ℕ, Bool, nat_le, List, take, drop}
use Rattle.octseq.specs.Integer.{be}

-- AFI, SAFI and an octet
abbrev pub family_tuple : List ℕ → ℕ × (ℕ × ℕ)
family_tuple octets = (be (take 2 octets), (be (take 1 (drop 2 octets)), be (take 1 (drop 3 octets))))

-- the first bit of the octet is set
abbrev pub forwards : ℕ → Bool
forwards flags = nat_le 128 flags

-- Large communities: RFC 8092, 3.
use Rattle.std.specs.Prelude.{ℕ, List, take, drop}
use Rattle.octseq.specs.Integer.{be}

-- three numbers of four octets
abbrev pub large_community : List ℕ → ℕ × (ℕ × ℕ)
large_community octets =
    (be (take 4 octets), (be (take 4 (drop 4 octets)), be (take 4 (drop 8 octets))))

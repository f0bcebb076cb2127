-- Octets split from the front, piece by piece.
use Rattle.std.specs.Prelude.{ℕ, zero, suc, List, [], ◌∷◌, length, take, drop, Option, Some, None, nat_le}
use Rattle.std.specs.Prelude.{option_and_then, if◌then◌else◌}
use Rattle.std.specs.Option.{option_map, option_map_or}
use Rattle.octseq.specs.Integer.{be}

-- the first piece of octets, and the octets after it, or none if there is no such piece
abbrev pub Split : Type 0 → Type 0
Split X = List ℕ → Option (X × List ℕ)

-- the first k octets
abbrev pub split_octets : ℕ → Split (List ℕ)
split_octets k octets = if nat_le k (length octets) then Some (take k octets, drop k octets) else None

-- the number in the first k octets, big-endian
abbrev pub split_number : ℕ → Split ℕ
split_number k octets = if nat_le k (length octets) then Some (be (take k octets), drop k octets) else None

-- octets after their length, which has k octets
abbrev pub split_part : ℕ → Split (List ℕ)
split_part k octets = option_and_then (λ many. split_octets many.0 many.1) (split_number k octets)

-- one piece and another
abbrev pub split_pair : {X Y : Type 0} → Split X → Split Y → Split (X × Y)
split_pair first second octets =
    option_and_then (λ one. option_map (λ other. ((one.0, other.0), other.1)) (second one.1)) (first octets)

-- the pieces of octets while there is a next one, at most n
abbrev pub pieces_within : {X : Type 0} → Split X → ℕ → List ℕ → List X
pieces_within split zero octets = []
pieces_within split (suc n) octets =
    option_map_or (λ piece. piece.0 ∷ pieces_within split n piece.1) (split octets) []

-- all pieces: each has at least one octet, so there are no more of them than octets
abbrev pub pieces : {X : Type 0} → Split X → List ℕ → List X
pieces split octets = pieces_within split (length octets) octets

-- What the readers of a name share: the piece at a place, and where the name ends.
use Rattle.std.specs.Prelude.{◌≡◌, ℕ, ◌≤◌, List, Option, Some, None}
use Rattle.octseq.specs.declared.AsOctets.{Ghosts}
use Rattle.octseq.specs.Parser.{window}
use Rattle.octseq.specs.Part.{part}
use Rattle.octseq.specs.declared.parse.Parser.{Parser}
use Rattle.octseq.specs.Window.{Window, left, rest}
use Rattle.octseq_dns_name.specs.Name.{HasRoot, HasLabel, HasPointer}
use Rattle.octseq_dns_name.specs.declared.name.step.Step.{Step}
use Rattle.octseq_dns_name.specs.declared.name.step.Step.TheVariants as step

-- one of the three pieces that may be at a place of a name
pub data Piece : Type 0 where
  root : Piece
  label : List ℕ → Piece
  pointer : ℕ → Piece

-- it is at a window's position
abbrev pub HasPiece : ℕ → Window → Piece → Window → Type 0
HasPiece start w Piece.root v = HasRoot w v
HasPiece start w (Piece.label l) v = HasLabel w l v
HasPiece start w (Piece.pointer to) v = HasPointer start w to v

-- the piece that a step took
abbrev pub piece : {R : Type 0} {g : Ghosts R} → Step R g → Piece
piece step.Root = Piece.root
piece (step.Label l) = Piece.label (rest (window l))
piece (step.Pointer to) = Piece.pointer to

-- a window of 1 to 63 octets
abbrev pub IsLabelPiece : {R : Type 0} {g : Ghosts R} → Parser R g → Type 0
IsLabelPiece parser = (1 ≤ left (window parser)) × (left (window parser) ≤ 63)

-- a label that was taken has 1 to 63 octets
abbrev pub IsShortLabel : {R : Type 0} {g : Ghosts R} → Step R g → Type 0
IsShortLabel (step.Label l) = IsLabelPiece l
IsShortLabel _ = Unit {0}

-- a label that was taken is where its octets are: after its length
abbrev pub IsPlaced : {R : Type 0} {g : Ghosts R} → Window → Step R g → Type 0
IsPlaced w (step.Label l) = window l ≡ part 1 w
IsPlaced w _ = Unit {0}

-- where a name ends: after its first pointer, if there was one
abbrev pub end_of_name : Option Window → Window → Window
end_of_name None u = u
end_of_name (Some v) u = v

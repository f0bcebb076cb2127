-- Parts: a length in k octets, big-endian, followed by that many octets.
use Rattle.std.specs.Prelude.{◌≡◌, ℕ, ◌≤◌, ◌↔◌, List, ◌++◌, length, Result, IsOk, OnOk, OnErr}
use Rattle.octseq_core.specs.declared.builder.AsOctets.{Ghosts}
use Rattle.octseq.specs.Integer.{be, octets_be}
use Rattle.octseq.specs.Parser.{window, sequence}
use Rattle.octseq.specs.Window.{Window, left, next, past, nested}
use Rattle.octseq.specs.declared.parse.Parser.{Parser}

-- the octets of a part
abbrev pub part_of : ℕ → List ℕ → List ℕ
part_of k octets = octets_be k (length octets) ++ octets

-- the number of octets of the next part, after its length
abbrev pub part_length : ℕ → Window → ℕ
part_length k w = be (next k w)

-- a whole part comes next
abbrev pub HasPart : ℕ → Window → Type 0
HasPart k w = (k ≤ left w) × (part_length k w ≤ left (past k w))

-- the window of the next part, after its length
abbrev pub part : ℕ → Window → Window
part k w = nested (part_length k w) (past k w)

-- the window after the next part
abbrev pub past_part : ℕ → Window → Window
past_part k w = past (part_length k w) (past k w)

-- A call takes the next part. It succeeds exactly if a whole one comes next; otherwise the window doesn't change.
pub record TakesPart {R T E : Type 0} {g : Ghosts R} (result : Result T E) (k : ℕ) (old new : Parser R g) : Type 0 where
  pub variant : IsOk result ↔ HasPart k (window old)
  pub ok : OnOk result (window new ≡ past_part k (window old))
  pub err : OnErr result (window new ≡ window old)
  pub same : sequence new ≡ sequence old

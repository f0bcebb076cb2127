-- What contracts see of a `Parser`.
use Rattle.std.specs.Prelude.{◌≡◌, ℕ, ◌≤◌, ◌↔◌, Result, IsOk, OnOk, OnErr}
use Rattle.octseq_core.specs.declared.builder.AsOctets.{Ghosts}
use Rattle.octseq.specs.Window.{Window, left, past}
use Rattle.octseq.specs.declared.parse.Parser.{Parser}

-- the sequence that it reads
abbrev pub sequence : {R : Type 0} {g : Ghosts R} → Parser R g → R
sequence parser = parser.octets

-- its window on the octets of that sequence
abbrev pub window : {R : Type 0} {g : Ghosts R} → Parser R g → Window
window {g = g} parser = record { octets = g.content parser.octets; position = parser.pos; end = parser.len }

-- A call takes the next n octets. It succeeds exactly if that many are left; otherwise the window doesn't change.
pub record Takes {R T E : Type 0} {g : Ghosts R} (result : Result T E) (n : ℕ) (old new : Parser R g) : Type 0 where
  pub variant : IsOk result ↔ (n ≤ left (window old))
  pub ok : OnOk result (window new ≡ past n (window old))
  pub err : OnErr result (window new ≡ window old)
  pub same : sequence new ≡ sequence old

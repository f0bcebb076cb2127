-- Fields in a message.
use Rattle.std.specs.Prelude.{◌≡◌, ◌≤◌, List, [], ◌∷◌, length}
use Rattle.octseq.specs.Window.{Window, left, next, past}
use Rattle.octseq_dns_compress.specs.State.{Field}
use Rattle.octseq_dns_name.specs.Name.{IsName}

-- Fields are at a window's position, one after another: a name, which may have pointers, or the given octets.
abbrev pub AreFields : Window → List Field → Window → Type 0
AreFields w [] v = v ≡ w
AreFields w (Field.name labels ∷ fields) v = (u : Window) × IsName w labels u × AreFields u fields v
AreFields w (Field.octets octets ∷ fields) v =
    (length octets ≤ left w) × (next (length octets) w ≡ octets) × AreFields (past (length octets) w) fields v

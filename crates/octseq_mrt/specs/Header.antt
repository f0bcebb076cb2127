-- The header of a record, and which octets are a record: RFC 6396, 2.
use Rattle.std.specs.Prelude.{◌≡◌, ◌≤◌, ℕ}
use Rattle.octseq.specs.Window.{Window, left, past, nested}
use Rattle.octseq_format.specs.Laws.{Relation}
use Rattle.octseq_format.specs.Pair.{◌then◌}
use Rattle.octseq_bgp.specs.Parts.{IsNumber, ◌deciding◌}
use Rattle.octseq_mrt.specs.declared.header.CommonHeader.{CommonHeader}

-- seconds, a type, a subtype, and a length
abbrev pub IsHeader : Relation CommonHeader
IsHeader w h v =
    (IsNumber 4 then IsNumber 2 then IsNumber 2 then IsNumber 4) w (h.timestamp, (h.type_code, (h.subtype, h.length))) v

-- the next k octets
abbrev pub IsNext : ℕ → Relation Window
IsNext k w octets v = (k ≤ left w) × (octets ≡ nested k w) × (v ≡ past k w)

-- a record: a header, and as many octets as its length says
abbrev pub IsRecord : Relation (CommonHeader × Window)
IsRecord = IsHeader deciding (λ h. IsNext h.length)

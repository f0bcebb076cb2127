-- The fields of an option of DHCP.
use Rattle.std.specs.Prelude.{ℕ, List, []}
use Rattle.octseq.specs.declared.AsOctets.{Ghosts}
use Rattle.octseq_format.specs.declared.window.Window.{Window}
use Rattle.octseq_format.specs.declared.choice.OneOf3.{OneOf3}
use Rattle.octseq_formats.specs.declared.dhcp.DhcpOption.{DhcpOption}

abbrev pub OptionFields : (R : Type 0) → Ghosts R → Type 0
OptionFields R g = OneOf3 (List ℕ) (List ℕ) (ℕ × Window R g)

abbrev pub option_fields : {R : Type 0} {g : Ghosts R} → DhcpOption R g → OptionFields R g
option_fields DhcpOption.Pad = OneOf3.First []
option_fields DhcpOption.End = OneOf3.Second []
option_fields (DhcpOption.Other code octets) = OneOf3.Third (code, octets)

-- The fields of a TFTP packet.
use Rattle.std.specs.Prelude.{ℕ}
use Rattle.octseq.specs.declared.AsOctets.{Ghosts}
use Rattle.octseq_format.specs.declared.window.Window.{Window}
use Rattle.octseq_format.specs.declared.choice.OneOf5.{OneOf5}
use Rattle.octseq_formats.specs.declared.tftp.Packet.{Packet}

abbrev pub PacketFields : (R : Type 0) → Ghosts R → Type 0
PacketFields R g = OneOf5 (Window R g × Window R g) (Window R g × Window R g) (ℕ × Window R g) ℕ (ℕ × Window R g)

abbrev pub packet_fields : {R : Type 0} {g : Ghosts R} → Packet R g → PacketFields R g
packet_fields (Packet.Read name mode) = OneOf5.First (name, mode)
packet_fields (Packet.Write name mode) = OneOf5.Second (name, mode)
packet_fields (Packet.Data block octets) = OneOf5.Third (block, octets)
packet_fields (Packet.Acknowledgment block) = OneOf5.Fourth block
packet_fields (Packet.Error code words) = OneOf5.Fifth (code, words)

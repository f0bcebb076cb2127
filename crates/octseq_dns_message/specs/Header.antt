-- The header of a message: RFC 1035, 4.1.1. AD and CD are those of RFC 4035, 3.1.6 and 3.2.
use Rattle.std.specs.Prelude.{ℕ, ◌+◌, ◌*◌, ◌<◌, List, [], ◌∷◌}
use Rattle.octseq.specs.Window.{Window}
use Rattle.octseq_dns_message.specs.Flag.{flag}
use Rattle.octseq_dns_data.specs.Format.{IsNumber}
use Rattle.octseq_dns_message.specs.declared.header.Header.{Header}
use Rattle.octseq_dns_message.specs.declared.header.HeaderCounts.{HeaderCounts}
use Rattle.octseq_format.specs.Row.{Row}

-- The second number of a header, from its highest bit: QR, four bits of opcode, AA, TC, RD, RA, a reserved bit, AD, CD,
-- and four bits of rcode.
abbrev pub flag_bits : Header → ℕ
flag_bits h = flag h.flags.qr 32768 + h.opcode * 2048 + flag h.flags.aa 1024 + flag h.flags.tc 512 + flag h.flags.rd 256
    + flag h.flags.ra 128 + flag h.flags.z 64 + flag h.flags.ad 32 + flag h.flags.cd 16 + h.rcode

-- six numbers of 2 octets
abbrev pub header_numbers : Header → HeaderCounts → List ℕ
header_numbers h counts =
    h.id ∷ flag_bits h ∷ counts.qdcount ∷ counts.ancount ∷ counts.nscount ∷ counts.arcount ∷ []

-- A header with its counts is at a window's position.
pub record IsHeader (w : Window) (h : Header) (counts : HeaderCounts) (v : Window) : Type 0 where
  pub numbers : Row (IsNumber 2) w (header_numbers h counts) v
  pub opcode : h.opcode < 16
  pub rcode : h.rcode < 16

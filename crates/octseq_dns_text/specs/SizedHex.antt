-- Hexadecimal of a known number of digits.
use Rattle.std.specs.Prelude.{◌≡◌, ℕ, ◌+◌, ◌*◌, List, length}
use Rattle.octseq_dns_scan.specs.Hex.{IsHexText}
use Rattle.octseq_dns_scan.specs.HexRead.{HasReadHex}
use Rattle.octseq_dns_text.specs.declared.runs.SizedHexReader.{SizedHexReader}

-- the text of so many digits is one of these octets
abbrev pub IsSizedHexText : ℕ → List ℕ → List ℕ → Type 0
IsSizedHexText digits text octets = IsHexText text octets × (length text ≡ digits)

-- A reader began before all digits, of which there is an even number, and has read these.
pub record HasReadSizedHex (start reader : SizedHexReader) (text octets : List ℕ) : Type 0 where
  pub half : ℕ
  pub even : start.digits ≡ 2 * half
  pub left : reader.digits + length text ≡ start.digits
  pub read : HasReadHex reader.reader text octets

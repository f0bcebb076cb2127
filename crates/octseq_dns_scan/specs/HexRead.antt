-- What a reader of hexadecimal text has read.
use Rattle.std.specs.Prelude.{◌≡◌, ℕ, List, [], ◌∷◌, ◌++◌, map, Option, Some, None}
use Rattle.std.specs.Char.{digit_char, to_ascii_lowercase}
use Rattle.std.specs.List.{flat_map}
use Rattle.octseq.proofs.WrittenBack.{AreOctets}
use Rattle.octseq.specs.OctetsText.{hex_text}
use Rattle.octseq_dns_scan.specs.declared.hex.HexReader.{HexReader}

-- the digit of a pair that hasn't its second one
abbrev pub open_digit : Option ℕ → List ℕ
open_digit None = []
open_digit (Some value) = digit_char value ∷ []

-- The text so far is that of the octets, and then the open digit.
pub record HasReadHex (reader : HexReader) (text octets : List ℕ) : Type 0 where
  pub each : AreOctets octets
  pub same : map to_ascii_lowercase text ≡ flat_map hex_text octets ++ open_digit reader.high

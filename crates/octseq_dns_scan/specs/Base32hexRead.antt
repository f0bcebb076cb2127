-- What a reader of base 32 text has read.
use Rattle.std.specs.Prelude.{ℕ, List, map}
use Rattle.std.specs.Char.{to_ascii_lowercase}
use Rattle.octseq.proofs.WrittenBack.{AreOctets}
use Rattle.octseq_dns_scan.specs.Base32hexPlace.{EndsAtBits}
use Rattle.octseq_dns_scan.specs.declared.base32hex.Base32hexReader.{Base32hexReader}

-- The text so far, in lower case, is that of the octets, and of bits of the next one.
abbrev pub HasReadBase32hex : Base32hexReader → List ℕ → List ℕ → Type 0
HasReadBase32hex reader text octets =
    AreOctets octets × EndsAtBits reader.place reader.bits (map to_ascii_lowercase text) octets

-- What a reader of base 64 text has read.
use Rattle.std.specs.Prelude.{ℕ, List}
use Rattle.octseq.proofs.WrittenBack.{AreOctets}
use Rattle.octseq_dns_scan.specs.Base64Place.{EndsAtDigit}
use Rattle.octseq_dns_scan.specs.declared.base64.Base64Reader.{Base64Reader}

-- The text so far is that of the octets, and of bits of the next one.
abbrev pub HasReadBase64 : Base64Reader → List ℕ → List ℕ → Type 0
HasReadBase64 reader text octets = AreOctets octets × EndsAtDigit reader.place reader.bits text octets

-- What a word is, and the octets that are made of it. A hyphen is 45.
use Rattle.std.specs.Prelude.{◌≡◌, ◌⊎◌, ℕ, ◌^◌, ◌<◌, ◌≤◌, List, [], ◌∷◌, length}
use Rattle.std.specs.Str.Parse.{IsNumeral, digits_value}
use Rattle.octseq.proofs.WrittenBack.{AreOctets}
use Rattle.octseq.specs.Integer.{octets_be}
use Rattle.octseq_dns_scan.specs.Address.{IsIpv4Word, IsIpv6Word}
use Rattle.octseq_dns_scan.specs.Base32hex.{IsBase32hexText}
use Rattle.octseq_dns_scan.specs.Hex.{IsHexText}
use Rattle.octseq_dns_scan.specs.Spelled.{SpellsString}
use Rattle.octseq_dns_scan.specs.Time.{IsTime}

-- a number in digits, in so many octets
abbrev pub IsNumeralWord : ℕ → List ℕ → List ℕ → Type 0
IsNumeralWord size word octets = IsNumeral 10 word × (digits_value 10 word < 256 ^ size)
    × (octets ≡ octets_be size (digits_value 10 word))

-- a time, in four octets
abbrev pub IsTimeWord : List ℕ → List ℕ → Type 0
IsTimeWord word octets = (time : ℕ) × IsTime word time × (octets ≡ octets_be 4 time)

abbrev pub IsIpv6 : List ℕ → List ℕ → Type 0
IsIpv6 word octets = AreOctets octets × (length octets ≡ 16) × IsIpv6Word word octets

-- The word is at most 255 octets, and these are made of it after their length.
abbrev pub IsCountedWord : (List ℕ → List ℕ → Type 0) → List ℕ → List ℕ → Type 0
IsCountedWord Is word octets =
    (inside : List ℕ) × Is word inside × (length inside ≤ 255) × (octets ≡ length inside ∷ inside)

-- a character string
abbrev pub IsStringWord : List ℕ → List ℕ → Type 0
IsStringWord = IsCountedWord (λ word inside. SpellsString inside word)

-- one or more octets in hexadecimal, or in base 32
abbrev pub IsSomeHex : List ℕ → List ℕ → Type 0
IsSomeHex word octets = (1 ≤ length octets) × AreOctets octets × IsHexText word octets

abbrev pub IsSomeBase32hex : List ℕ → List ℕ → Type 0
IsSomeBase32hex word octets = (1 ≤ length octets) × AreOctets octets × IsBase32hexText word octets

-- a salt: octets in hexadecimal, or a hyphen for none (RFC 5155, 3.3)
abbrev pub IsSalt : List ℕ → List ℕ → Type 0
IsSalt word salt = ((word ≡ 45 ∷ []) × (salt ≡ [])) ⊎ IsSomeHex word salt

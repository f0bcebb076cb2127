-- Addresses as words of text.
use Rattle.std.specs.Prelude.{ℕ, List}
use Rattle.std.specs.Net.Addr.{segments_of}
use Rattle.std.specs.Net.Grammar.{IsDotted, IsColonHex}

-- the word is an IPv4 address of these four octets
abbrev pub IsIpv4Word : List ℕ → List ℕ → Type 0
IsIpv4Word word octets = IsDotted word octets

-- the word is an IPv6 address of these sixteen octets (RFC 4291, 2.2)
abbrev pub IsIpv6Word : List ℕ → List ℕ → Type 0
IsIpv6Word word octets = IsColonHex word (segments_of octets)

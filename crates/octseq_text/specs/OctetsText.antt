-- Octets and addresses as a text shows them: RFC 1035, 5.1 (strings), RFC 3597, 5 (octets of no known form), and
-- RFC 5952 (IPv6 addresses).
use Rattle.std.specs.Prelude.{ℕ, ◌+◌, ◌/◌, ◌%◌, Bool, ◌&&◌, ◌||◌, not, ◌==◌, if◌then◌else◌, List, [], ◌∷◌, ◌++◌}
use Rattle.std.specs.Prelude.{length, take, drop, replicate, codes, bytes_eq}
use Rattle.std.specs.Char.{char_set_contains, digit_char, is_ascii_graphic}
use Rattle.std.specs.Fmt.{decimal}
use Rattle.std.specs.List.{flat_map}
use Rattle.std.specs.Net.Addr.{segments_of}
use Rattle.std.specs.Net.Text.{ipv4_text, ipv6_text}

-- two lower-case hexadecimal digits
abbrev pub hex_text : ℕ → List ℕ
hex_text octet = digit_char (octet / 16) ∷ digit_char (octet % 16) ∷ []

-- octets in hexadecimal, after a space (32) if there are any
abbrev pub octets_after : List ℕ → List ℕ
octets_after [] = []
octets_after (octet ∷ octets) = 32 ∷ flat_map hex_text (octet ∷ octets)

-- the number of octets, and the octets
abbrev pub opaque_text : List ℕ → List ℕ
opaque_text octets = codes "\\# " ++ decimal (length octets) ++ octets_after octets

-- three decimal digits: 48 is `0`
abbrev pub three_digits : ℕ → List ℕ
three_digits n = (48 + n / 100) ∷ (48 + n / 10 % 10) ∷ (48 + n % 10) ∷ []

-- An octet of a string: after a backslash (92), or as it is if it is visible ASCII or a space, or as a backslash and
-- its number.
abbrev pub is_string_quoted : ℕ → Bool
is_string_quoted = char_set_contains (codes "\"\\")

abbrev pub string_octet_text : ℕ → List ℕ
string_octet_text octet = if is_string_quoted octet then 92 ∷ octet ∷ []
    else (if octet == 32 || is_ascii_graphic octet then octet ∷ [] else 92 ∷ three_digits octet)

-- a string: each octet, between quotation marks (34)
abbrev pub string_text : List ℕ → List ℕ
string_text octets = 34 ∷ flat_map string_octet_text octets ++ 34 ∷ []

-- whether an IPv6 address ends in an IPv4 address: twelve zeros, then not 0.0.0.0 to 0.0.255.255
abbrev pub is_compatible : List ℕ → Bool
is_compatible octets = bytes_eq (take 12 octets) (replicate 12 0)
    && not (bytes_eq (take 2 (drop 12 octets)) (0 ∷ 0 ∷ []))

-- An IPv6 address of 16 octets: `::` and the IPv4 address at its end, otherwise std's `ipv6_text`, which also shows the
-- IPv4 address after ten zeros and FF FF.
abbrev pub ipv6_address_text : List ℕ → List ℕ
ipv6_address_text octets =
    if is_compatible octets then codes "::" ++ ipv4_text (drop 12 octets) else ipv6_text (segments_of octets)

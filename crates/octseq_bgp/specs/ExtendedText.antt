-- The text of extended communities: RFC 4360, 4 and 5, and RFC 5668, 2.
use Rattle.std.specs.Prelude.{ℕ, ◌/◌, ◌%◌, Bool, ◌&&◌, ◌||◌, if◌then◌else◌, nat_eq, nat_le, List, ◌++◌, codes}
use Rattle.std.specs.Fmt.{decimal}
use Rattle.octseq_bgp.specs.OctetsText.{number_dotted, number_hex}

-- the type of an extended community, its subtype, and its other six octets
abbrev pub extended_type : ℕ → ℕ
extended_type n = n / 72057594037927936

abbrev pub extended_subtype : ℕ → ℕ
extended_subtype n = n / 281474976710656 % 256

abbrev pub extended_value : ℕ → ℕ
extended_value n = n % 281474976710656

-- it is a route target or a route origin, of a type whose six octets are parsed
abbrev pub is_named : ℕ → Bool
is_named n = nat_le (extended_type n) 2 && (nat_eq (extended_subtype n) 2 || nat_eq (extended_subtype n) 3)

-- a route target or a route origin
abbrev pub extended_name : ℕ → List ℕ
extended_name subtype = if nat_eq subtype 2 then codes "target:" else codes "origin:"

-- six octets by their type: a two-octet AS number and a number of four octets; an IPv4 address and a number of two; a
-- four-octet AS number and a number of two
abbrev pub extended_parts : ℕ → ℕ → List ℕ
extended_parts kind n = if nat_eq kind 0 then decimal (n / 4294967296) ++ codes ":" ++ decimal (n % 4294967296)
    else (if nat_eq kind 1 then number_dotted (n / 65536) ++ codes ":" ++ decimal (n % 65536)
    else decimal (n / 65536) ++ codes "L:" ++ decimal (n % 65536))

-- sixteen hexadecimal digits
abbrev pub extended_digits : ℕ → List ℕ
extended_digits n = number_hex (n / 4294967296) ++ number_hex (n % 4294967296)

-- an extended community: its name and parts, or all its digits
unfoldable pub extended_text : ℕ → List ℕ
extended_text n = if is_named n
    then extended_name (extended_subtype n) ++ extended_parts (extended_type n) (extended_value n)
    else extended_digits n

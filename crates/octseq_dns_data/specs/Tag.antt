-- The property tags of CAA (RFC 8659, 4.1).
use Rattle.std.specs.Prelude.{◌≢◌, ℕ, ◌≤◌, List, [], All, IsTrue, length}
use Rattle.std.specs.Char.{is_ascii_alphanumeric}

-- one or more ASCII letters and digits
pub record IsTag (octets : List ℕ) : Type 0 where
  pub some : octets ≢ []
  pub alphanumeric : All (λ octet. IsTrue (is_ascii_alphanumeric octet)) octets

-- a tag that fits a length of one octet
abbrev pub IsCaaTag : List ℕ → Type 0
IsCaaTag octets = IsTag octets × (length octets ≤ 255)

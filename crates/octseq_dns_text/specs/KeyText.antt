-- The names of the keys of service parameters: RFC 9460, 2.1 and 14.3.2.
use Rattle.std.specs.Prelude.{◌≡◌, ◌≢◌, ◌⊎◌, ℕ, ◌<◌, ◌≤◌, List, [], ◌∷◌, ◌++◌, length, slice_index, codes}
use Rattle.std.specs.Prelude.{Option, Some, None, if◌then◌else◌}
use Rattle.std.specs.List.{IsAmong}
use Rattle.std.specs.Str.{bytes_eq}
use Rattle.std.specs.Str.Parse.{IsNumeral, digits_value}
use Rattle.octseq_dns_data.specs.Mnemonic.{Mnemonics}
use Rattle.octseq_dns_data.specs.SvcParamsText.{key_names}

-- the first number with a name
abbrev pub key_named : Mnemonics → List ℕ → Option ℕ
key_named [] name = None
key_named (named ∷ more) name = if bytes_eq named.1 name then Some named.0 else key_named more name

-- `key` and a number of 16 bits, whose first digit is 0 (48) only if there is no other
pub record IsNumberedKey (name : List ℕ) (key : ℕ) : Type 0 where
  pub digits : List ℕ
  pub parts : name ≡ codes "key" ++ digits
  pub numeral : IsNumeral 10 digits
  pub least : 2 ≤ length digits → slice_index digits 0 ≢ 48
  pub value : digits_value 10 digits ≡ key
  pub bits : key < 65536

-- a text is the name of a key, or `key` and its number
abbrev pub IsKeyText : List ℕ → ℕ → Type 0
IsKeyText name key = IsAmong key_names (key, name) ⊎ IsNumberedKey name key

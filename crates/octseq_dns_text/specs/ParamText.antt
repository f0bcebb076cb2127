-- A service parameter, as a word: RFC 9460, 2.1, 7, 8 and A.1.
use Rattle.std.specs.Prelude.{◌≡◌, ℕ, ◌<◌, ◌≤◌, ◌^◌, Option, Some, None, List, [], length}
use Rattle.std.specs.List.{AllZip, concat}
use Rattle.std.specs.List.Sorted.{IsPermutation}
use Rattle.std.specs.Str.Parse.{IsNumeral, digits_value}
use Rattle.octseq.proofs.WrittenBack.{AreOctets}
use Rattle.octseq.specs.Integer.{octets_be}
use Rattle.octseq_dns_data.specs.SvcParams.{AreKeys, Param}
use Rattle.octseq_dns_scan.specs.Address.{IsIpv4Word, IsIpv6Word}
use Rattle.octseq_dns_scan.specs.Base64.{IsBase64Text}
use Rattle.octseq_dns_scan.specs.Spelled.{SpellsString}
use Rattle.octseq_dns_text.specs.IdsText.{IsIdsText}
use Rattle.octseq_dns_text.specs.KeyText.{IsKeyText}
use Rattle.octseq_dns_text.specs.Split.{octets_before, split_after, items_of}

-- Names of keys with commas between them, in any order. The value has the keys in ascending order.
pub record IsMandatoryText (said value : List ℕ) : Type 0 where
  pub keys : List ℕ
  pub each : AllZip IsKeyText (items_of said) keys
  pub sorted : List ℕ
  pub moved : IsPermutation keys sorted
  pub are : AreKeys value sorted

-- a number of 16 bits
pub record IsPortText (said value : List ℕ) : Type 0 where
  pub numeral : IsNumeral 10 said
  pub bits : digits_value 10 said ≤ 65535
  pub octets : value ≡ octets_be 2 (digits_value 10 said)

-- a text is an address, of so many octets
pub record IsAddressText (Is : List ℕ → List ℕ → Type 0) (size : ℕ) (text octets : List ℕ) : Type 0 where
  pub is : Is text octets
  pub many : length octets ≡ size
  pub each : AreOctets octets

-- addresses with commas between them
pub record AreAddressTexts (Is : List ℕ → List ℕ → Type 0) (size : ℕ) (said value : List ℕ) : Type 0 where
  pub addresses : List (List ℕ)
  pub each : AllZip (IsAddressText Is size) (items_of said) addresses
  pub octets : value ≡ concat addresses

-- octets in base 64
pub record IsEchText (said value : List ℕ) : Type 0 where
  pub text : IsBase64Text said value
  pub each : AreOctets value

-- What is said of the value of a key, and its octets: RFC 9460, 14.3.2. For any other key they are what is said.
pub record IsParamValueText (key : ℕ) (said value : List ℕ) : Type 0 where
  pub mandatory : key ≡ 0 → IsMandatoryText said value
  pub alpn : key ≡ 1 → IsIdsText said value
  pub no_default_alpn : key ≡ 2 → (said ≡ []) × (value ≡ [])
  pub port : key ≡ 3 → IsPortText said value
  pub ipv4hint : key ≡ 4 → AreAddressTexts IsIpv4Word 4 said value
  pub ech : key ≡ 5 → IsEchText said value
  pub ipv6hint : key ≡ 6 → AreAddressTexts IsIpv6Word 16 said value
  pub other : 7 ≤ key → value ≡ said

-- what is said of a value: the octets of a string, or nothing
abbrev pub Says : Option (List ℕ) → List ℕ → Type 0
Says None said = said ≡ []
Says (Some text) said = SpellsString said text

-- A word is a parameter: the name of its key, and after an equals sign (61), if there is one, what is said of its
-- value.
pub record IsParamText (word : List ℕ) (param : Param) : Type 0 where
  pub said : List ℕ
  pub key : IsKeyText (octets_before 61 word) param.0
  pub says : Says (split_after 61 word) said
  pub value : IsParamValueText param.0 said param.1
  pub few : length param.1 < 2 ^ 16

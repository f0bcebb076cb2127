-- The words of fields: parts of data that are one word each.
use Rattle.std.specs.Prelude.{◌≡◌, ℕ, Option, Some, None, List}
use Rattle.octseq.specs.Integer.{octets_be}
use Rattle.octseq_dns_data.specs.Mnemonic.{ReadsRtype}
use Rattle.octseq_dns_data.specs.Tag.{IsTag}
use Rattle.octseq_dns_data.specs.declared.layout.Field.{Field}
use Rattle.octseq_dns_data.specs.declared.layout.Field.TheVariants as field
use Rattle.octseq_dns_name.specs.Origin.{SpellsWithOrigin}
use Rattle.octseq_dns_name.specs.Spelling.{SpellsName}
use Rattle.octseq_dns_name.specs.Wire.{IsWireOf}
use Rattle.octseq_dns_scan.specs.Address.{IsIpv4Word}
use Rattle.octseq_dns_text.specs.Words.{
  IsNumeralWord,
  IsTimeWord,
  IsIpv6,
  IsCountedWord,
  IsStringWord,
  IsSomeBase32hex,
  IsSalt,
}

-- a type, in two octets
abbrev pub IsRtypeWord : List ℕ → List ℕ → Type 0
IsRtypeWord word octets = (number : ℕ) × ReadsRtype word number × (octets ≡ octets_be 2 number)

-- a name, which may be relative to an origin if there is one
abbrev pub SpellsAt : Option (List (List ℕ)) → List (List ℕ) → List ℕ → Type 0
SpellsAt None labels word = SpellsName labels word
SpellsAt (Some origin) labels word = SpellsWithOrigin origin labels word

-- and its wire form
abbrev pub IsNameWord : Option (List (List ℕ)) → List ℕ → List ℕ → Type 0
IsNameWord origin word octets = (labels : List (List ℕ)) × SpellsAt origin labels word × IsWireOf labels octets

-- a property tag, as it is
abbrev pub IsTagWord : List ℕ → List ℕ → Type 0
IsTagWord word tag = (tag ≡ word) × IsTag word

-- The word is a field of these octets.
abbrev pub IsFieldText : Option (List (List ℕ)) → Field → List ℕ → List ℕ → Type 0
IsFieldText origin field.U8 word octets = IsNumeralWord 1 word octets
IsFieldText origin field.U16 word octets = IsNumeralWord 2 word octets
IsFieldText origin field.U32 word octets = IsNumeralWord 4 word octets
IsFieldText origin field.Rtype word octets = IsRtypeWord word octets
IsFieldText origin field.Time word octets = IsTimeWord word octets
IsFieldText origin field.Ipv4 word octets = IsIpv4Word word octets
IsFieldText origin field.Ipv6 word octets = IsIpv6 word octets
IsFieldText origin field.Name word octets = IsNameWord origin word octets
IsFieldText origin field.String word octets = IsStringWord word octets
IsFieldText origin field.Tag word octets = IsCountedWord IsTagWord word octets
IsFieldText origin field.Salt word octets = IsCountedWord IsSalt word octets
IsFieldText origin field.OwnerHash word octets = IsCountedWord IsSomeBase32hex word octets

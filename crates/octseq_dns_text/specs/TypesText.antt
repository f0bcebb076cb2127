-- Sets of types, as words: RFC 4034, 4.2.
use Rattle.std.specs.Prelude.{◌≡◌, ℕ, List, nat_eq}
use Rattle.std.specs.List.{AllZip, IsDistinct}
use Rattle.octseq_dns_data.specs.Mnemonic.{ReadsRtype}
use Rattle.octseq_dns_data.specs.RtypeBitmapMade.{bitmap_of}

-- The words are types, all different, in any order. The octets are their bitmap.
pub record IsTypesText (words : List (List ℕ)) (octets : List ℕ) : Type 0 where
  pub rtypes : List ℕ
  pub each : AllZip ReadsRtype words rtypes
  pub once : IsDistinct nat_eq rtypes
  pub bitmap : octets ≡ bitmap_of rtypes

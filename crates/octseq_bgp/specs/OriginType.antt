-- The numbers of origins: RFC 4271, 4.3.
use Rattle.std.specs.Prelude.{ℕ}
use Rattle.octseq_bgp.specs.declared.attribute.compose.number.OriginType.{OriginType}
use Rattle.octseq_bgp.specs.declared.attribute.compose.number.OriginType.TheVariants as origin

abbrev pub origin_number : OriginType → ℕ
origin_number origin.Igp = 0
origin_number origin.Egp = 1
origin_number origin.Incomplete = 2

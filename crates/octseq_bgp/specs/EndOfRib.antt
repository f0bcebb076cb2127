-- Which UPDATEs are End-of-RIB markers: RFC 4724, 2.
use Rattle.std.specs.Prelude.{◌≡◌, ◌⊎◌, List, [], ◌∷◌, length}
use Rattle.octseq_bgp.specs.AttributeType.{type_number}
use Rattle.octseq_bgp.specs.Parts.{Attribute, type_of, inside_of}
use Rattle.octseq_bgp.specs.Update.{Update}
use Rattle.octseq_bgp.specs.Value.{Unreach, IsUnreach}
use Rattle.octseq_bgp.specs.declared.attribute.attribute_type.AttributeType.TheVariants as kind
use Rattle.octseq_bgp.specs.declared.family.AfiSafiType.{AfiSafiType}
use Rattle.octseq_bgp.specs.declared.family.AfiSafiType.TheVariants as family
use Rattle.octseq_bgp.specs.declared.session.SessionConfig.{SessionConfig}

-- the only attribute is an MP_UNREACH_NLRI of a family, without prefixes
abbrev pub UnreachesNone : SessionConfig → List Attribute → AfiSafiType → Type 0
UnreachesNone s [] f = ⊥
UnreachesNone s (e ∷ more) f = (length more ≡ 0) × (type_of e ≡ type_number kind.MpUnreachNlri)
    × (r : Unreach) × IsUnreach s (inside_of e) r × (length r.prefixes ≡ 0) × (f ≡ r.family)

-- An UPDATE without prefixes is the End-of-RIB marker of a family: IPv4 unicast if it has no attributes, otherwise that
-- of the attribute.
pub record IsEndOfRib (u : Update) (f : AfiSafiType) : Type 0 where
  pub withdrawn : length u.withdrawn ≡ 0
  pub announced : length u.announced ≡ 0
  pub attributes : (length u.attributes ≡ 0) × (f ≡ family.Ipv4Unicast) ⊎ UnreachesNone u.session u.attributes f

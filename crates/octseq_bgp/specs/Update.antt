-- An UPDATE without its header: RFC 4271, 4.3.
use Rattle.std.specs.Prelude.{◌≡◌, List}
use Rattle.octseq.specs.Window.{Window}
use Rattle.octseq_format.specs.Laws.{Relation}
use Rattle.octseq_format.specs.Pair.{◌then◌}
use Rattle.octseq_format.specs.Rest.{IsRest}
use Rattle.octseq_bgp.specs.Fills.{Whole, Fills}
use Rattle.octseq_bgp.specs.Parts.{Attribute, IsAttribute, IsCounted}
use Rattle.octseq_bgp.specs.Prefix.{Nlri, ArePrefixes}
use Rattle.octseq_bgp.specs.declared.family.AfiSafiType.TheVariants as family
use Rattle.octseq_bgp.specs.declared.session.SessionConfig.{SessionConfig}

-- An UPDATE: its three lists, and the session that says how the values of its attributes are read.
pub record Update : Type 0 where
  pub session : SessionConfig
  pub withdrawn : List Nlri
  pub attributes : List Attribute
  pub announced : List Nlri

-- withdrawn routes after their length, attributes after theirs, and prefixes up to the end
abbrev pub IsUpdateParts : Relation (Window × (Window × Window))
IsUpdateParts = IsCounted 2 then IsCounted 2 then IsRest

-- Its prefixes are IPv4 unicast.
pub record IsUpdate (s : SessionConfig) (w : Window) (u : Update) : Type 0 where
  pub parts : Window × (Window × Window)
  pub are : Whole IsUpdateParts w parts
  pub of_session : u.session ≡ s
  pub withdrawn : ArePrefixes s family.Ipv4Unicast parts.0 u.withdrawn
  pub attributes : Fills IsAttribute parts.1.0 u.attributes
  pub announced : ArePrefixes s family.Ipv4Unicast parts.1.1 u.announced

-- What contracts see of the lists of a message: the parts that are left.
use Rattle.std.specs.Prelude.{ℕ, List}
use Rattle.octseq.specs.declared.AsOctets.{Ghosts}
use Rattle.octseq.specs.Parser.{window}
use Rattle.octseq.specs.Window.{Window}
use Rattle.octseq_bgp.specs.Parts.{Attribute}
use Rattle.octseq_bgp.specs.Prefix as prefix
use Rattle.octseq_bgp.specs.Prefix.{nlri_ahead}
use Rattle.octseq_bgp.specs.declared.attribute.PathAttribute.{PathAttribute}
use Rattle.octseq_bgp.specs.declared.attribute.PathAttributes.{PathAttributes}
use Rattle.octseq_bgp.specs.declared.message.parameter.Parameter.{Parameter}
use Rattle.octseq_bgp.specs.declared.message.parameter.Parameters.{Parameters}
use Rattle.octseq_bgp.specs.declared.prefix.Nlri.{Nlri}
use Rattle.octseq_bgp.specs.declared.prefix.Prefixes.{Prefixes}
use Rattle.octseq_bgp.specs.declared.session.SessionConfig.{SessionConfig}

-- a prefix
abbrev pub nlri_of : {R : Type 0} {g : Ghosts R} → Nlri R g → prefix.Nlri
nlri_of n = record { path_id = n.path_id; afi = n.afi; bits = n.len; octets = window n.octets }

-- prefixes
abbrev pub prefixes_left : {R : Type 0} {g : Ghosts R} → Prefixes R g → List prefix.Nlri
prefixes_left p = nlri_ahead p.paths p.afi (window p.parser) p.left p.ahead

-- a path attribute
abbrev pub attribute_of : {R : Type 0} {g : Ghosts R} → PathAttribute R g → Attribute
attribute_of a = (a.flags.0, (a.type_code, window a.value))

-- path attributes
abbrev pub attributes_left : {R : Type 0} {g : Ghosts R} → PathAttributes R g → List Attribute
attributes_left a = a.ahead.0

-- the session in which they were read
abbrev pub attributes_session : {R : Type 0} {g : Ghosts R} → PathAttributes R g → SessionConfig
attributes_session a = a.session

-- a parameter: its type, and the window of its octets
abbrev pub parameter_of : {R : Type 0} {g : Ghosts R} → Parameter R g → ℕ × Window
parameter_of p = (p.kind, window p.value)

-- parameters
abbrev pub parameters_left : {R : Type 0} {g : Ghosts R} → Parameters R g → List (ℕ × Window)
parameters_left p = p.ahead.0

-- The text of a message: a line for each of its parts.
use Rattle.std.specs.Prelude.{◌≡◌, ℕ, List, [], ◌∷◌, ◌++◌, codes}
use Rattle.std.specs.Fmt.{decimal}
use Rattle.std.specs.List.{flat_map}
use Rattle.octseq.specs.Window.{Window, rest}
use Rattle.octseq_bgp.specs.Capability.{CapabilityValue, IsCapabilityValue, ParameterValue, IsParameterValue}
use Rattle.octseq_bgp.specs.CapabilityText.{capability_text, parameter_text, numbers_family}
use Rattle.octseq_bgp.specs.Message.{Message}
use Rattle.octseq_bgp.specs.Notification.{NotificationData, IsNotificationData}
use Rattle.octseq_bgp.specs.OctetsText.{spaced, number_dotted}
use Rattle.octseq.specs.OctetsText.{opaque_text, string_text}
use Rattle.octseq_bgp.specs.Open.{Open}
use Rattle.octseq_bgp.specs.Parts.{Attribute, type_of, inside_of}
use Rattle.octseq_bgp.specs.Prefix.{Nlri}
use Rattle.octseq_bgp.specs.Update.{Update}
use Rattle.octseq_bgp.specs.Value.{Value, IsValue}
use Rattle.octseq_bgp.specs.ValueText.{attribute_text, nlri_text}
use Rattle.octseq_bgp.specs.declared.session.SessionConfig.{SessionConfig}

-- a word, its arguments, and a line feed (10)
abbrev pub line : List ℕ → List ℕ → List ℕ
line word text = word ++ 32 ∷ text ++ 10 ∷ []

-- ---- UPDATE

-- a line for each prefix
abbrev pub nlri_lines : List ℕ → List Nlri → List ℕ
nlri_lines word = flat_map (λ n. line word (nlri_text n))

-- the lines of the prefixes of a value
abbrev pub value_lines : Value → List ℕ
value_lines (Value.reach r) = nlri_lines (codes "reached") r.prefixes
value_lines (Value.unreach r) = nlri_lines (codes "unreached") r.prefixes
value_lines _ = []

-- an attribute, and its prefixes
abbrev pub attribute_lines : Attribute → Value → List ℕ
attribute_lines e v = line (codes "attribute") (attribute_text e v) ++ value_lines v

-- the lines of each attribute, by its value
abbrev pub AreAttributeLines : SessionConfig → List Attribute → List ℕ → Type 0
AreAttributeLines s [] text = text ≡ []
AreAttributeLines s (e ∷ more) text = (v : Value) × (rest : List ℕ) × IsValue s (type_of e) (inside_of e) v
    × AreAttributeLines s more rest × (text ≡ attribute_lines e v ++ rest)

-- an UPDATE: its word, the withdrawn prefixes, the attributes, and the announced prefixes
abbrev pub IsUpdateText : Update → List ℕ → Type 0
IsUpdateText u text = (attributes : List ℕ) × AreAttributeLines u.session u.attributes attributes
    × (text ≡ codes "update\n" ++ nlri_lines (codes "withdrawn") u.withdrawn ++ attributes
    ++ nlri_lines (codes "announced") u.announced)

-- ---- OPEN

-- a line for each capability, by its value
abbrev pub AreCapabilityLines : List (ℕ × Window) → List ℕ → Type 0
AreCapabilityLines [] text = text ≡ []
AreCapabilityLines (e ∷ more) text = (v : CapabilityValue) × (rest : List ℕ) × IsCapabilityValue e.0 e.1 v
    × AreCapabilityLines more rest × (text ≡ line (codes "capability") (capability_text e.0 v) ++ rest)

-- the lines of a parameter: those of its capabilities, or one line
abbrev pub AreParameterValueLines : ℕ → ParameterValue → List ℕ → Type 0
AreParameterValueLines kind (ParameterValue.capabilities row) text = AreCapabilityLines row text
AreParameterValueLines kind (ParameterValue.opaque w) text =
    text ≡ line (codes "parameter") (parameter_text kind w)

-- the lines of each parameter
abbrev pub AreParameterLines : List (ℕ × Window) → List ℕ → Type 0
AreParameterLines [] text = text ≡ []
AreParameterLines (p ∷ more) text = (v : ParameterValue) × (here : List ℕ) × (rest : List ℕ)
    × IsParameterValue p.0 p.1 v × AreParameterValueLines p.0 v here × AreParameterLines more rest
    × (text ≡ here ++ rest)

-- the text of an OPEN before its parameters
abbrev pub open_text : Open → List ℕ
open_text o = codes "version " ++ decimal o.version ++ codes " as " ++ decimal o.my_asn ++ codes " hold "
    ++ decimal o.holdtime ++ codes " id " ++ number_dotted o.identifier

-- an OPEN, and its parameters
abbrev pub IsOpenText : Open → List ℕ → Type 0
IsOpenText o text = (parameters : List ℕ) × AreParameterLines o.parameters parameters
    × (text ≡ line (codes "open") (open_text o) ++ parameters)

-- ---- the other messages

-- the data of a NOTIFICATION: text as a string, other octets as they are
abbrev pub data_text : NotificationData → List ℕ
data_text (NotificationData.shutdown text) = string_text (rest text)
data_text (NotificationData.opaque octets) = opaque_text (rest octets)

abbrev pub notification_text : ℕ → ℕ → NotificationData → List ℕ
notification_text code subcode it = decimal code ++ spaced (decimal subcode) ++ spaced (data_text it)

abbrev pub IsNotificationText : ℕ × (ℕ × Window) → List ℕ → Type 0
IsNotificationText n text = (it : NotificationData) × IsNotificationData n.0 n.1.0 n.1.1 it
    × (text ≡ line (codes "notification") (notification_text n.0 n.1.0 it))

-- what follows the family of a ROUTE-REFRESH, if anything does
abbrev pub orf_text : List ℕ → List ℕ
orf_text [] = []
orf_text (octet ∷ octets) = spaced (opaque_text (octet ∷ octets))

abbrev pub refresh_text : ℕ × (ℕ × (ℕ × Window)) → List ℕ
refresh_text r = numbers_family r.0 r.1.1.0 ++ spaced (decimal r.1.0) ++ orf_text (rest r.1.1.1)

-- a message
abbrev pub IsMessageText : Message → List ℕ → Type 0
IsMessageText (Message.opens o) text = IsOpenText o text
IsMessageText (Message.update u) text = IsUpdateText u text
IsMessageText (Message.notification n) text = IsNotificationText n text
IsMessageText Message.keepalive text = text ≡ codes "keepalive\n"
IsMessageText (Message.route_refresh r) text = text ≡ line (codes "route-refresh") (refresh_text r)

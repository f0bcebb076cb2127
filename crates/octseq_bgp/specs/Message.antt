-- Which octets are a BGP message, and what it says: RFC 4271, 4, RFC 2918, 3 (ROUTE-REFRESH), and RFC 8654 for the
-- maximum length.
use Rattle.std.specs.Prelude.{◌≡◌, ◌≢◌, ℕ, ◌≤◌, ◌⊎◌, List, length, IsTrue}
use Rattle.octseq.specs.Window.{Window, left, whole}
use Rattle.octseq_format.specs.Laws.{Relation}
use Rattle.octseq_format.specs.Pair.{◌then◌}
use Rattle.octseq_format.specs.Rest.{IsRest}
use Rattle.octseq_bgp.specs.Parts.{IsNumber}
use Rattle.octseq_bgp.specs.Fills.{Whole}
use Rattle.octseq_bgp.specs.MessageType as message_type
use Rattle.octseq_bgp.specs.Open.{Open, IsOpen}
use Rattle.octseq_bgp.specs.Update.{Update, IsUpdate, IsUpdateParts}
use Rattle.octseq_bgp.specs.declared.session.SessionConfig.{SessionConfig}

-- What a message says: an OPEN; an UPDATE; a code, a subcode and the data of a NOTIFICATION; nothing; or AFI, subtype,
-- SAFI and what follows them in a ROUTE-REFRESH.
pub data Message : Type 0 where
  opens : Open → Message
  update : Update → Message
  notification : ℕ × (ℕ × Window) → Message
  keepalive : Message
  route_refresh : ℕ × (ℕ × (ℕ × Window)) → Message

-- 16 octets of 255, the length of the message, its type, and what follows
abbrev pub IsHeader : Window → ℕ × (ℕ × Window) → Type 0
IsHeader w h = Whole (IsNumber 16 then IsNumber 2 then IsNumber 1 then IsRest) w
    (message_type.marker, h)

-- what a NOTIFICATION has after its header: RFC 4271, 4.5
abbrev pub IsNotification : Relation (ℕ × (ℕ × Window))
IsNotification = IsNumber 1 then IsNumber 1 then IsRest

-- what a ROUTE-REFRESH has: RFC 2918, 3, RFC 7313, 3.2, and RFC 5291, 4
abbrev pub IsRouteRefresh : Relation (ℕ × (ℕ × (ℕ × Window)))
IsRouteRefresh = IsNumber 2 then IsNumber 1 then IsNumber 1 then IsRest

-- what follows a header, by its type
abbrev pub IsBody : SessionConfig → Window → ℕ → Message → Type 0
IsBody s w kind (Message.opens o) = (kind ≡ message_type.opens) × IsOpen w o
IsBody s w kind (Message.update u) = (kind ≡ message_type.update) × IsUpdate s w u
IsBody s w kind (Message.notification n) = (kind ≡ message_type.notification) × Whole IsNotification w n
IsBody s w kind Message.keepalive = (kind ≡ message_type.keepalive) × (left w ≡ 0)
IsBody s w kind (Message.route_refresh r) = (kind ≡ message_type.route_refresh) × Whole IsRouteRefresh w r

-- the messages of a session that may exceed 4,096 octets: all but OPEN and KEEPALIVE, if messages are extended
abbrev pub MayBeLong : SessionConfig → ℕ → Type 0
MayBeLong s kind = IsTrue s.extended_message × (kind ≢ message_type.opens) × (kind ≢ message_type.keepalive)

-- a number of octets that a message may have (no length can say more than 65,535)
abbrev pub IsShortEnough : SessionConfig → ℕ → ℕ → Type 0
IsShortEnough s kind size = (size ≤ 4096) ⊎ MayBeLong s kind

-- The octets are a message of the session.
pub record IsMessage (s : SessionConfig) (octets : List ℕ) (m : Message) : Type 0 where
  pub kind : ℕ
  pub body : Window
  pub header : IsHeader (whole octets) (length octets, (kind, body))
  pub short : IsShortEnough s kind (length octets)
  pub is : IsBody s body kind m

-- By their header the octets are an UPDATE, and these are its three parts, whether lists fill them or not.
pub record HasUpdateParts (s : SessionConfig) (octets : List ℕ) (parts : Window × (Window × Window)) : Type 0 where
  pub body : Window
  pub header : IsHeader (whole octets) (length octets, (message_type.update, body))
  pub short : IsShortEnough s 2 (length octets)
  pub are : Whole IsUpdateParts body parts

-- The text of a BGP message, and the rows of numbers that C sees of it.
use Rattle.std.specs.Prelude.{◌≡◌, ℕ, Option, Some, None, List, [], ◌∷◌, ◌++◌, map}
use Rattle.octseq.specs.Window.{left}
use Rattle.octseq_bgp.specs.Family.{safi_number}
use Rattle.octseq_bgp.specs.Message.{Message, IsMessage}
use Rattle.octseq_bgp.specs.MessageText.{IsMessageText}
use Rattle.octseq_bgp.specs.Parts.{Attribute, flags_of, type_of, inside_of}
use Rattle.octseq_bgp.specs.Prefix.{Nlri}
use Rattle.octseq_bgp.specs.Update.{Update}
use Rattle.octseq_bgp.specs.Value.{Value, IsValue}
use Rattle.octseq_bgp.specs.declared.family.Afi.{Afi}
use Rattle.octseq_bgp.specs.declared.family.Afi.TheVariants as addresses
use Rattle.octseq_bgp.specs.declared.prefix.PathId.{PathId}
use Rattle.octseq_bgp.specs.declared.session.SessionConfig.{SessionConfig}
use Rattle.octseq_c.specs.declared.bgp.rows.BgpRow.{BgpRow}

-- octets are a message of a session
abbrev pub IsBgpMessage : SessionConfig → List ℕ → Type 0
IsBgpMessage session octets = (message : Message) × IsMessage session octets message

-- The octets are a message of a session, and this is its text.
pub record IsBgpTextOf (session : SessionConfig) (octets text : List ℕ) : Type 0 where
  pub message : Message
  pub is : IsMessage session octets message
  pub text_is : IsMessageText message text

-- ---- rows

-- the number of a path id, or 0
abbrev pub path_number : Option PathId → ℕ
path_number None = 0
path_number (Some id) = id.0

-- 1 if there is a path id, 0 if there is none
abbrev pub path_count : Option PathId → ℕ
path_count None = 0
path_count (Some id) = 1

-- the AFI of an address
abbrev pub afi_of_address : Afi → ℕ
afi_of_address addresses.Ipv4 = 1
afi_of_address addresses.Ipv6 = 2

-- the row of a prefix of a kind and a SAFI
abbrev pub row_of_prefix : ℕ → ℕ → Nlri → BgpRow
row_of_prefix kind safi n = record {
  at = n.octets.position;
  len = left n.octets;
  kind = kind;
  path_id = path_number n.path_id;
  has_path_id = path_count n.path_id;
  afi = afi_of_address n.afi;
  safi = safi;
  bits = n.bits;
  flags = 0;
  type_code = 0;
}

-- the row of an attribute: kind 1
abbrev pub row_of_attribute : Attribute → BgpRow
row_of_attribute e = record {
  at = (inside_of e).position;
  len = left (inside_of e);
  kind = 1;
  path_id = 0;
  has_path_id = 0;
  afi = 0;
  safi = 0;
  bits = 0;
  flags = flags_of e;
  type_code = type_of e;
}

-- the rows of the prefixes of a value: reached ones are of kind 3, unreached ones of kind 4
abbrev pub rows_of_value : Value → List BgpRow
rows_of_value (Value.reach r) = map (row_of_prefix 3 (safi_number r.family)) r.prefixes
rows_of_value (Value.unreach r) = map (row_of_prefix 4 (safi_number r.family)) r.prefixes
rows_of_value _ = []

-- an attribute, and its prefixes
abbrev pub rows_of_attribute : Attribute → Value → List BgpRow
rows_of_attribute e v = row_of_attribute e ∷ rows_of_value v

-- the rows of each attribute, by its value
abbrev pub AreAttributeRows : SessionConfig → List Attribute → List BgpRow → Type 0
AreAttributeRows s [] rows = rows ≡ []
AreAttributeRows s (e ∷ more) rows = (v : Value) × (rest : List BgpRow) × IsValue s (type_of e) (inside_of e) v
    × AreAttributeRows s more rest × (rows ≡ rows_of_attribute e v ++ rest)

-- an UPDATE: the withdrawn prefixes, of kind 0, the attributes, and the announced prefixes, of kind 2
abbrev pub AreUpdateRows : Update → List BgpRow → Type 0
AreUpdateRows u rows = (attributes : List BgpRow) × AreAttributeRows u.session u.attributes attributes
    × (rows ≡ map (row_of_prefix 0 1) u.withdrawn ++ (attributes ++ map (row_of_prefix 2 1) u.announced))

-- a message: one that is no UPDATE has none
abbrev pub AreMessageRows : Message → List BgpRow → Type 0
AreMessageRows (Message.update u) rows = AreUpdateRows u rows
AreMessageRows _ rows = rows ≡ []

-- The octets are a message of a session, and these are its rows.
pub record AreBgpRowsOf (session : SessionConfig) (octets : List ℕ) (rows : List BgpRow) : Type 0 where
  pub message : Message
  pub is : IsMessage session octets message
  pub rows_are : AreMessageRows message rows

-- An UPDATE while it is written, and what a push does to it.
use Rattle.std.specs.Prelude.{◌≡◌, ℕ, ◌<◌, ◌↔◌, Bool, true, Option, Some, None, List, [], ◌∷◌, ◌++◌, length}
use Rattle.std.specs.Prelude.{Result, OnOk, OnErr}
use Rattle.octseq.specs.Refusal.{IsMalformed, IsShort, IsMemory, write_error}
use Rattle.octseq.specs.declared.error.WriteError.{WriteError}
use Rattle.octseq_bgp.specs.Composed.{least}
use Rattle.octseq_bgp.specs.PartOctets.{PartOctets}
use Rattle.octseq_bgp.specs.Written.{WrittenPrefix, WrittenAttribute, WrittenUpdate, prefixes_octets, attributes_octets}
use Rattle.octseq_bgp.specs.Written.{update_octets, UpdateFits, longest, typed_attribute, IsPrefixOf}
use Rattle.octseq_bgp.specs.declared.attribute.attribute_type.AttributeType.{AttributeType}
use Rattle.octseq_bgp.specs.declared.attribute.attribute_type.AttributeType.TheVariants as kind
use Rattle.octseq_bgp.specs.declared.family.AfiSafiType.{AfiSafiType}
use Rattle.octseq_bgp.specs.declared.message.update_builder.part.MpList.{MpList}
use Rattle.octseq_bgp.specs.declared.message.update_builder.part.MpList.TheVariants as list
use Rattle.octseq_bgp.specs.declared.prefix.PathId.{PathId}
use Rattle.octseq_bgp.specs.declared.prefix.Prefix.{Prefix}
use Rattle.octseq_bgp.specs.declared.session.SessionConfig.{SessionConfig}

-- An UPDATE that is being written: the builder of its octets, the session, what it says so far, and which list of
-- prefixes its last attribute is, if it is open for more.
pub record Writing (B : Type 0) : Type 0 where
  pub octets : B
  pub session : SessionConfig
  pub update : WrittenUpdate
  pub open_list : Option MpList

-- ---- up to which part it is written

-- it has nothing after its withdrawn routes
abbrev pub UpToWithdrawn : WrittenUpdate → Type 0
UpToWithdrawn u = (u.attributes ≡ []) × (u.announced ≡ [])

-- it has nothing after its attributes
abbrev pub UpToAttributes : WrittenUpdate → Type 0
UpToAttributes u = u.announced ≡ []

-- it may have anything
abbrev pub UpToAnnounced : WrittenUpdate → Type 0
UpToAnnounced u = Unit {0}

-- ---- one more

-- an UPDATE that says nothing
abbrev pub empty_update : WrittenUpdate
empty_update = record { withdrawn = []; attributes = []; announced = [] }

-- with another withdrawn prefix
abbrev pub more_withdrawn : WrittenUpdate → WrittenPrefix → WrittenUpdate
more_withdrawn u one = record u { withdrawn = u.withdrawn ++ one ∷ [] }

-- with another attribute
abbrev pub more_attributes : WrittenUpdate → WrittenAttribute → WrittenUpdate
more_attributes u one = record u { attributes = u.attributes ++ one ∷ [] }

-- with another announced prefix
abbrev pub more_announced : WrittenUpdate → WrittenPrefix → WrittenUpdate
more_announced u one = record u { announced = u.announced ++ one ∷ [] }

-- with more octets at the end of the last attribute, whose type this is
abbrev pub grown : AttributeType → List ℕ → List WrittenAttribute → List WrittenAttribute
grown t more [] = []
grown t more (one ∷ []) = typed_attribute t (one.octets ++ more) ∷ []
grown t more (one ∷ other ∷ rest) = one ∷ grown t more (other ∷ rest)

abbrev pub more_in_last : AttributeType → WrittenUpdate → List ℕ → WrittenUpdate
more_in_last t u more = record u { attributes = grown t more u.attributes }

-- ---- what a push does

-- A call pushes something, whole or not at all. It is refused as malformed exactly if this isn't good, otherwise as
-- short exactly if the message would exceed the greatest length of the session or of the builder, and for lack of
-- memory only if the type requests memory. A refused call leaves the message unchanged.
pub record Pushes {B : Type 0} (limit : Option ℕ) (asks : Bool) (Good : Type 0) (result : Result (Unit {0}) WriteError)
    (wanted : WrittenUpdate) (open_list : Option MpList) (old new : Writing B) : Type 0 where
  pub ok : OnOk result (new.update ≡ wanted)
  pub opens : OnOk result (new.open_list ≡ open_list)
  pub good : OnOk result Good
  pub err : OnErr result (new.update ≡ old.update)
  pub kept : OnErr result (new.open_list ≡ old.open_list)
  pub session : new.session ≡ old.session
  pub malformed : IsMalformed write_error result ↔ ¬ Good
  pub short : IsShort write_error result ↔ Good × (least (longest old.session) limit < length (update_octets wanted))
  pub memory : IsMemory write_error result → asks ≡ true

-- a prefix that continues a list of reachable prefixes, if that is open
abbrev pub IsReached : SessionConfig → Option MpList → Prefix → Option PathId → Type 0
IsReached s (Some (list.Reach f)) p path_id = IsPrefixOf s f p path_id
IsReached s _ p path_id = ⊥

-- and one that continues a list of prefixes that are no longer reachable
abbrev pub IsUnreached : SessionConfig → Option MpList → Prefix → Option PathId → Type 0
IsUnreached s (Some (list.Unreach f)) p path_id = IsPrefixOf s f p path_id
IsUnreached s _ p path_id = ⊥

-- ---- what the builder holds

-- the type of a list of prefixes, and its family
abbrev pub list_type : MpList → AttributeType
list_type (list.Reach f) = kind.MpReachNlri
list_type (list.Unreach f) = kind.MpUnreachNlri

abbrev pub list_family : MpList → AfiSafiType
list_family (list.Reach f) = f
list_family (list.Unreach f) = f

-- The last attribute is of this type, and begins after so many octets of attributes.
pub record IsLast (t : AttributeType) (at : ℕ) (attributes : List WrittenAttribute) : Type 0 where
  pub front : List WrittenAttribute
  pub octets : List ℕ
  pub is : attributes ≡ front ++ typed_attribute t octets ∷ []
  pub offset : at ≡ length (attributes_octets front)

abbrev pub IsListOpen : Option MpList → ℕ → List WrittenAttribute → Type 0
IsListOpen None at attributes = Unit {0}
IsListOpen (Some l) at attributes = IsLast (list_type l) at attributes

-- The three parts are those of an UPDATE of the session, which has nothing after the part that is written.
pub record IsHeld {B : Type 0} (Reaches : WrittenUpdate → Type 0) (s : SessionConfig) (parts : PartOctets B)
    (open_list : Option MpList) (open_at : ℕ) (u : WrittenUpdate) : Type 0 where
  pub withdrawn_is : parts.withdrawn ≡ prefixes_octets u.withdrawn
  pub attributes_is : parts.attributes ≡ attributes_octets u.attributes
  pub announced_is : parts.announced ≡ prefixes_octets u.announced
  pub fits : UpdateFits s u
  pub reaches : Reaches u
  pub opened : IsListOpen open_list open_at u.attributes

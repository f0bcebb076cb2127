-- How faulty UPDATEs must be handled: RFC 7606, RFC 4271, 6.3, RFC 4456, 8, and RFC 6793, 6.
use Rattle.std.specs.Prelude.{◌≡◌, ◌↔◌, ◌<◌, ◌≤◌, ◌/◌, ◌⊎◌, max, Bool, true, ℕ, List, [], ◌∷◌, length, IsTrue}
use Rattle.std.specs.Prelude.{if◌then◌else◌, nat_eq, nat_le}
use Rattle.octseq.specs.Integer.{be}
use Rattle.octseq.specs.Window.{Window, left, next, past}
use Rattle.octseq_bgp.specs.AttributeType.{type_number, type_flags}
use Rattle.octseq_bgp.specs.Family.{afi_number, safi_number}
use Rattle.octseq_bgp.specs.Parts.{Attribute, flags_of, type_of, inside_of}
use Rattle.octseq_bgp.specs.Update.{Update}
use Rattle.octseq_bgp.specs.Value.{Reach, IsReach, Value, HasForm}
use Rattle.octseq_bgp.specs.declared.attribute.attribute_type.AttributeType.{AttributeType}
use Rattle.octseq_bgp.specs.declared.attribute.attribute_type.AttributeType.TheVariants as kind
use Rattle.octseq_bgp.specs.declared.family.AfiSafiType.{AfiSafiType}
use Rattle.octseq_bgp.specs.declared.message.handling.Handling.{Handling}
use Rattle.octseq_bgp.specs.declared.message.handling.Handling.TheVariants as handling
use Rattle.octseq_bgp.specs.declared.session.SessionConfig.{SessionConfig}

-- how severe a handling is
abbrev pub rank : Handling → ℕ
rank handling.Accept = 0
rank handling.AttributeDiscard = 1
rank handling.TreatAsWithdraw = 2
rank handling.SessionReset = 3

abbrev pub accept : ℕ
accept = rank handling.Accept

abbrev pub attribute_discard : ℕ
attribute_discard = rank handling.AttributeDiscard

abbrev pub treat_as_withdraw : ℕ
treat_as_withdraw = rank handling.TreatAsWithdraw

abbrev pub session_reset : ℕ
session_reset = rank handling.SessionReset

-- the handling if the flags are others: RFC 7606, 3 (c)
abbrev pub flags_rank : AttributeType → ℕ → ℕ
flags_rank t flags = if nat_eq (flags / 64) (type_flags t) then accept else treat_as_withdraw

-- the handling of an attribute from an external peer, whatever its value: RFC 7606, 7.5, 7.9 and 7.10
abbrev pub external_rank : Bool → AttributeType → ℕ
external_rank external kind.LocalPref = if external then attribute_discard else accept
external_rank external kind.OriginatorId = if external then attribute_discard else accept
external_rank external kind.ClusterList = if external then attribute_discard else accept
external_rank external _ = accept

-- The octets name a family whose prefixes are parsed, or are too few to name one.
abbrev pub NamesFamily : Window → Type 0
NamesFamily w =
    (left w < 3) ⊎ (f : AfiSafiType) × (afi_number f ≡ be (next 2 w)) × (safi_number f ≡ be (next 1 (past 2 w)))

-- the handling if the octets don't have the form of the type: RFC 7606, 7
abbrev pub opaque_rank : Bool → Bool → AttributeType → ℕ
opaque_rank external names kind.LocalPref = if external then attribute_discard else treat_as_withdraw
opaque_rank external names kind.OriginatorId = if external then attribute_discard else treat_as_withdraw
opaque_rank external names kind.ClusterList = if external then attribute_discard else treat_as_withdraw
opaque_rank external names kind.AtomicAggregate = attribute_discard
opaque_rank external names kind.Aggregator = attribute_discard
opaque_rank external names kind.As4Path = attribute_discard
opaque_rank external names kind.As4Aggregator = attribute_discard
opaque_rank external names kind.MpReachNlri = if names then session_reset else accept
opaque_rank external names kind.MpUnreachNlri = if names then session_reset else accept
opaque_rank external names _ = treat_as_withdraw

-- the worst of these, for the first attribute of a type
abbrev pub type_rank : Bool → Bool → Bool → AttributeType → ℕ → ℕ
type_rank external typed names t flags =
    max (flags_rank t flags) (max (external_rank external t) (if typed then accept else opaque_rank external names t))

-- the handling of an attribute whose type has occurred before: RFC 7606, 3 (g)
abbrev pub again_rank : ℕ → ℕ
again_rank number =
    if nat_eq number (type_number kind.MpReachNlri) then session_reset
    else (if nat_eq number (type_number kind.MpUnreachNlri) then session_reset else attribute_discard)

-- the handling of an attribute of unknown type: RFC 4271, 6.3
abbrev pub unknown_rank : ℕ → ℕ
unknown_rank flags = if nat_le 128 flags then accept else session_reset

-- The handling of an attribute, of a known or an unknown type, given whether its type has occurred before.
pub data IsRank (s : SessionConfig) (external again : Bool) (e : Attribute) (n : ℕ) : Type 0 where
  repeated : again ≡ true → n ≡ again_rank (type_of e) → IsRank s external again e n
  known : ¬ (again ≡ true) → (t : AttributeType) → type_number t ≡ type_of e → (typed names : Bool)
      → IsTrue typed ↔ ((v : Value) × HasForm s t (inside_of e) v) → IsTrue names ↔ NamesFamily (inside_of e)
      → n ≡ type_rank external typed names t (flags_of e) → IsRank s external again e n
  unknown : ¬ (again ≡ true) → ((t : AttributeType) → ¬ (type_number t ≡ type_of e)) → n ≡ unknown_rank (flags_of e)
      → IsRank s external again e n

-- an attribute of this type is in the list
abbrev pub HasType : List Attribute → ℕ → Type 0
HasType [] number = ⊥
HasType (e ∷ more) number = (type_of e ≡ number) ⊎ HasType more number

-- The worst handling of the attributes of a list, given those before them. If it is empty, they are accepted.
abbrev pub IsWorst : SessionConfig → Bool → List Attribute → List Attribute → ℕ → Type 0
IsWorst s external before [] n = n ≡ accept
IsWorst s external before (e ∷ more) n =
    (again : Bool) × (IsTrue again ↔ HasType before (type_of e)) × (x : ℕ) × IsRank s external again e x
    × (y : ℕ) × IsWorst s external (e ∷ before) more y × (n ≡ max x y)

-- the attribute is an MP_REACH_NLRI that has prefixes
abbrev pub IsReachWithPrefixes : SessionConfig → Attribute → Type 0
IsReachWithPrefixes s e = (type_of e ≡ type_number kind.MpReachNlri) × (r : Reach) × IsReach s (inside_of e) r
    × (1 ≤ length r.prefixes)

-- one of the attributes is
abbrev pub ReachesSome : SessionConfig → List Attribute → Type 0
ReachesSome s [] = ⊥
ReachesSome s (e ∷ more) = IsReachWithPrefixes s e ⊎ ReachesSome s more

-- prefixes are announced, by the UPDATE itself or by an attribute
abbrev pub Announces : SessionConfig → Update → Type 0
Announces s u = (1 ≤ length u.announced) ⊎ ReachesSome s u.attributes

-- A mandatory attribute is missing: ORIGIN or AS_PATH if prefixes are announced, NEXT_HOP if the UPDATE itself
-- announces them: RFC 4271, 5, and RFC 7606, 3 (d).
abbrev pub LacksMandatory : SessionConfig → Update → Type 0
LacksMandatory s u = Announces s u
    × (¬ HasType u.attributes (type_number kind.Origin) ⊎ ¬ HasType u.attributes (type_number kind.AsPath))
    ⊎ (1 ≤ length u.announced) × ¬ HasType u.attributes (type_number kind.NextHop)

-- the handling of an UPDATE: the worst of all these
pub record IsHandling (external : Bool) (u : Update) (n : ℕ) : Type 0 where
  pub worst : ℕ
  pub is_worst : IsWorst u.session external [] u.attributes worst
  pub lacks_mandatory : Bool
  pub is_missing : IsTrue lacks_mandatory ↔ LacksMandatory u.session u
  pub is : n ≡ max worst (if lacks_mandatory then treat_as_withdraw else accept)

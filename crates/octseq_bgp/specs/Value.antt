-- The values of path attributes, by their type.
use Rattle.std.specs.Prelude.{◌≡◌, Bool, true, ℕ, ◌≤◌, ◌⊎◌, List, length}
use Rattle.octseq.specs.Integer.{be}
use Rattle.octseq.specs.Window.{Window, left}
use Rattle.octseq_format.specs.Fixed.{IsFixed}
use Rattle.octseq_format.specs.Laws.{Relation}
use Rattle.octseq_format.specs.Pair.{◌then◌}
use Rattle.octseq_format.specs.Rest.{IsRest}
use Rattle.octseq_format.specs.Where.{IsWhere}
use Rattle.octseq_bgp.specs.AttributeType.{type_number}
use Rattle.octseq_bgp.specs.Community.{large_community}
use Rattle.octseq_bgp.specs.Family.{afi_number, safi_number}
use Rattle.octseq_bgp.specs.Fills.{Whole, Fills}
use Rattle.octseq_bgp.specs.NextHop.{IsNextHop}
use Rattle.octseq_bgp.specs.Parts.{IsNumber, IsCounted, IsSegment, Segment}
use Rattle.octseq_bgp.specs.Path.{asn_size}
use Rattle.octseq_bgp.specs.Prefix.{Nlri, ArePrefixes}
use Rattle.octseq_bgp.specs.declared.attribute.attribute_type.AttributeType.{AttributeType}
use Rattle.octseq_bgp.specs.declared.attribute.attribute_type.AttributeType.TheVariants as kind
use Rattle.octseq_bgp.specs.declared.family.AfiSafiType.{AfiSafiType}
use Rattle.octseq_bgp.specs.declared.attribute.next_hop.NextHop.{NextHop}
use Rattle.octseq_bgp.specs.declared.session.SessionConfig.{SessionConfig}

-- Reachable prefixes: a family, next hops, and the prefixes.
pub record Reach : Type 0 where
  pub family : AfiSafiType
  pub next_hop : NextHop
  pub prefixes : List Nlri

-- AFI, SAFI, next hops after their length, a reserved octet, and what follows: RFC 4760, 3
abbrev pub IsReachFront : Relation (ℕ × (ℕ × (Window × (ℕ × Window))))
IsReachFront = IsNumber 2 then IsNumber 1 then IsCounted 1 then IsNumber 1 then IsRest

pub record IsReach (s : SessionConfig) (w : Window) (r : Reach) : Type 0 where
  pub next_hops : Window
  pub reserved : ℕ
  pub rest : Window
  pub front : Whole IsReachFront w (afi_number r.family, (safi_number r.family, (next_hops, (reserved, rest))))
  pub next_hop : IsNextHop r.family next_hops r.next_hop
  pub prefixes : ArePrefixes s r.family rest r.prefixes

-- Prefixes that are no longer reachable: a family and the prefixes.
pub record Unreach : Type 0 where
  pub family : AfiSafiType
  pub prefixes : List Nlri

-- AFI, SAFI and what follows: RFC 4760, 4
abbrev pub IsUnreachFront : Relation (ℕ × (ℕ × Window))
IsUnreachFront = IsNumber 2 then IsNumber 1 then IsRest

pub record IsUnreach (s : SessionConfig) (w : Window) (r : Unreach) : Type 0 where
  pub rest : Window
  pub front : Whole IsUnreachFront w (afi_number r.family, (safi_number r.family, rest))
  pub prefixes : ArePrefixes s r.family rest r.prefixes

-- The value of an attribute: a number; the segments of a path, and whether its AS numbers have four octets; nothing; an
-- AS number and an address; communities; prefixes; or octets without the form of their type.
pub data Value : Type 0 where
  origin : ℕ → Value
  as_path : Bool × List Segment → Value
  next_hop : ℕ → Value
  multi_exit_disc : ℕ → Value
  local_pref : ℕ → Value
  atomic_aggregate : Value
  aggregator : ℕ × ℕ → Value
  communities : List ℕ → Value
  originator_id : ℕ → Value
  cluster_list : List ℕ → Value
  reach : Reach → Value
  unreach : Unreach → Value
  extended_communities : List ℕ → Value
  as4_path : Bool × List Segment → Value
  as4_aggregator : ℕ × ℕ → Value
  large_communities : List (ℕ × (ℕ × ℕ)) → Value
  opaque : Window → Value

-- one or more items of k octets fill the window
abbrev pub SomeItems : {A : Type 0} → ℕ → (List ℕ → A) → Window → List A → Type 0
SomeItems k reads w row = Fills (IsFixed k reads) w row × (1 ≤ length row)

-- segments with AS numbers of four octets or two fill the window
abbrev pub IsPath : Bool → Window → Bool × List Segment → Type 0
IsPath wide w path = (path.0 ≡ wide) × Fills (IsSegment (asn_size wide)) w path.1

-- a value made from what a window says
abbrev pub Made : {A : Type 0} → (A → Value) → (A → Type 0) → Value → Type 0
Made {A} make Is v = (a : A) × (v ≡ make a) × Is a

-- the window has the form of a type, and is this value
abbrev pub HasForm : SessionConfig → AttributeType → Window → Value → Type 0
HasForm s kind.Origin w = Made Value.origin (Whole (IsWhere (IsNumber 1) (λ n. n) (λ n. n ≤ 2)) w)
HasForm s kind.AsPath w = Made Value.as_path (IsPath s.four_octet_asn w)
HasForm s kind.NextHop w = Made Value.next_hop (Whole (IsNumber 4) w)
HasForm s kind.MultiExitDisc w = Made Value.multi_exit_disc (Whole (IsNumber 4) w)
HasForm s kind.LocalPref w = Made Value.local_pref (Whole (IsNumber 4) w)
HasForm s kind.AtomicAggregate w = λ v. (v ≡ Value.atomic_aggregate) × (left w ≡ 0)
HasForm s kind.Aggregator w = Made Value.aggregator (Whole (IsNumber (asn_size s.four_octet_asn) then IsNumber 4) w)
HasForm s kind.Communities w = Made Value.communities (SomeItems 4 be w)
HasForm s kind.OriginatorId w = Made Value.originator_id (Whole (IsNumber 4) w)
HasForm s kind.ClusterList w = Made Value.cluster_list (SomeItems 4 be w)
HasForm s kind.MpReachNlri w = Made Value.reach (IsReach s w)
HasForm s kind.MpUnreachNlri w = Made Value.unreach (IsUnreach s w)
HasForm s kind.ExtendedCommunities w = Made Value.extended_communities (SomeItems 8 be w)
HasForm s kind.As4Path w = Made Value.as4_path (IsPath true w)
HasForm s kind.As4Aggregator w = Made Value.as4_aggregator (Whole (IsNumber 4 then IsNumber 4) w)
HasForm s kind.LargeCommunities w = Made Value.large_communities (SomeItems 12 large_community w)

-- the octets of an attribute have the form of its type, and are this value
abbrev pub IsTyped : SessionConfig → ℕ → Window → Value → Type 0
IsTyped s number w v = (t : AttributeType) × (number ≡ type_number t) × HasForm s t w v

-- they are a value, or have no form and are opaque
abbrev pub IsValue : SessionConfig → ℕ → Window → Value → Type 0
IsValue s number w v = IsTyped s number w v ⊎ (v ≡ Value.opaque w) × ((other : Value) → ¬ IsTyped s number w other)

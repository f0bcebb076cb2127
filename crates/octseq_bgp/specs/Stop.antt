-- Where reading stops in octets of a message: at the first thing that isn't there, or at the end if nothing is missing.
use Rattle.std.specs.Prelude.{◌≡◌, ℕ, ◌<◌, ◌≤◌, ◌⊎◌, Bool, List, length, true, false}
use Rattle.octseq.specs.Window.{Window, left, past, whole}
use Rattle.octseq_format.specs.Laws.{Relation, NoneAt}
use Rattle.octseq_bgp.specs.Fills.{Whole, AreFilled, ListStops}
use Rattle.octseq_bgp.specs.MessageType as message_type
use Rattle.octseq_bgp.specs.Message.{IsHeader, IsShortEnough}
use Rattle.octseq_bgp.specs.Open.{IsLong}
use Rattle.octseq_bgp.specs.Parts.{IsAttribute, IsCounted, IsPathPrefix, IsPrefix, IsTlv}
use Rattle.octseq_bgp.specs.Session.{adds_path}
use Rattle.octseq_bgp.specs.declared.family.AfiSafiType.TheVariants as family
use Rattle.octseq_bgp.specs.declared.session.SessionConfig.{SessionConfig}

-- ---- lists

-- reading stops in a list; or its values fill the window, and reading stops in what is read next
abbrev pub ListStop : {A : Type 0} → Relation A → Window → (ℕ → Type 0) → ℕ → Type 0
ListStop Is w Next offset = ListStops Is w offset ⊎ (AreFilled Is w × Next offset)

-- reading stops in a list after which nothing is read, or at the list's end
abbrev pub LastStop : {A : Type 0} → Relation A → Window → ℕ → Type 0
LastStop Is w offset = ListStop Is w (λ offset. offset ≡ w.end) offset

-- reading stops in IPv4 prefixes, which have path ids or not
abbrev pub PrefixFault : Bool → Window → ℕ → Type 0
PrefixFault true = ListStops (IsPathPrefix 32)
PrefixFault false = ListStops (IsPrefix 32)

-- they fill the window
abbrev pub PrefixFilled : Bool → Window → Type 0
PrefixFilled true = AreFilled (IsPathPrefix 32)
PrefixFilled false = AreFilled (IsPrefix 32)

-- reading stops in them; or they fill the window, and reading stops in what is read next
abbrev pub PrefixStop : Bool → Window → (ℕ → Type 0) → ℕ → Type 0
PrefixStop paths w Next offset = PrefixFault paths w offset ⊎ (PrefixFilled paths w × Next offset)

-- ---- bodies

-- a value is there, and reading stops in what is read next; or it isn't, and reading stops here
abbrev pub ThingStop : {A : Type 0} → Relation A → (A → Window → ℕ → Type 0) → Window → ℕ → Type 0
ThingStop {A} Is Next w offset =
    ((a : A) × (v : Window) × Is w a v × Next a v offset) ⊎ (NoneAt Is w × (offset ≡ w.position))

-- k octets are there, and reading stops in what is read next; or they aren't, and reading stops here
abbrev pub FixedStop : ℕ → (ℕ → Type 0) → Window → ℕ → Type 0
FixedStop k Next w offset = ((k ≤ left w) × Next offset) ⊎ ((left w < k) × (offset ≡ w.position))

-- a list after its length of k octets, which ends the message; or it doesn't, and reading stops at that length
abbrev pub CountedStop : {A : Type 0} → ℕ → Relation A → Window → ℕ → Type 0
CountedStop k Is w offset = ((inside : Window) × Whole (IsCounted k) w inside × LastStop Is inside offset)
    ⊎ (((inside : Window) → ¬ Whole (IsCounted k) w inside) × (offset ≡ w.position))

-- parameters, in the long form if its marks are there
abbrev pub ParametersStop : Window → ℕ → Type 0
ParametersStop w offset = (IsLong w × CountedStop 2 (IsTlv 2) (past 2 w) offset)
    ⊎ (¬ IsLong w × CountedStop 1 (IsTlv 1) w offset)

-- an OPEN: ten octets, the last of which is the length of its parameters
abbrev pub OpenStop : Window → ℕ → Type 0
OpenStop w = FixedStop 10 (ParametersStop (past 9 w)) w

-- the three lists of an UPDATE
abbrev pub ListsStop : SessionConfig → Window → Window → Window → ℕ → Type 0
ListsStop s withdrawn attributes announced =
    PrefixStop (adds_path s.add_path family.Ipv4Unicast) withdrawn
    (ListStop IsAttribute attributes
    (PrefixStop (adds_path s.add_path family.Ipv4Unicast) announced (λ offset. offset ≡ announced.end)))

-- an UPDATE: withdrawn routes after their length, attributes after theirs, and announced prefixes
abbrev pub UpdateStop : SessionConfig → Window → ℕ → Type 0
UpdateStop s = ThingStop (IsCounted 2) (λ withdrawn.
    ThingStop (IsCounted 2) (λ attributes announced. ListsStop s withdrawn attributes announced))

-- Reading stops in what follows a header, by its type: anything may follow two octets of a NOTIFICATION and four of a
-- ROUTE-REFRESH, and nothing may follow the header of a KEEPALIVE.
pub data BodyStop (s : SessionConfig) (kind : ℕ) (w : Window) (offset : ℕ) : Type 0 where
  opens : kind ≡ message_type.opens → OpenStop w offset → BodyStop s kind w offset
  update : kind ≡ message_type.update → UpdateStop s w offset → BodyStop s kind w offset
  notification : kind ≡ message_type.notification → FixedStop 2 (λ offset. offset ≡ w.end) w offset
      → BodyStop s kind w offset
  keepalive : kind ≡ message_type.keepalive → offset ≡ w.position → BodyStop s kind w offset
  route_refresh : kind ≡ message_type.route_refresh → FixedStop 4 (λ offset. offset ≡ w.end) w offset
      → BodyStop s kind w offset

-- ---- messages

-- A header of a known type whose length is the number of octets, and allowed in the session.
pub record HasHeader (s : SessionConfig) (octets : List ℕ) (kind : ℕ) (body : Window) : Type 0 where
  pub header : IsHeader (whole octets) (length octets, (kind, body))
  pub short : IsShortEnough s kind (length octets)
  pub known : (1 ≤ kind) × (kind ≤ 5)

-- The offset where reading stops: the first octet if there is no header, otherwise an offset in what follows it.
abbrev pub IsStop : SessionConfig → List ℕ → ℕ → Type 0
IsStop s octets offset =
    ((kind : ℕ) × (body : Window) × HasHeader s octets kind body × BodyStop s kind body offset)
    ⊎ (((kind : ℕ) (body : Window) → ¬ HasHeader s octets kind body) × (offset ≡ 0))

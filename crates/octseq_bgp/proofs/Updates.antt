-- UPDATEs while they are written.
use Rattle.std.proofs.Common.{◌≡◌, ℕ, ◌+◌, ◌^◌, ◌≤◌, suc, Bool, true, false, Option, Some, None, [], length}
use Rattle.std.proofs.Common.{refl, ap, ◌∙◌, arith}
use Rattle.std.specs.Prelude.{if◌then◌else◌}
use Rattle.std.proofs.Math.Logic.{∥∥₁_elim, ∥∥₁_map}
use Rattle.std.proofs.Props.{props}
use Rattle.std.specs.Coded.{Coded-set, codes, coded_list, le_prop, Unit-prop}
use Rattle.octseq_bgp.specs.Composed.{long_after}
use Rattle.octseq_bgp.specs.Held.{HeldUpdate, held_is, attribute_code, written_prefix_code, update_code}
use Rattle.octseq_bgp.specs.PartOctets.{PartOctets}
use Rattle.octseq_bgp.specs.Writing.{IsHeld, IsListOpen, UpToWithdrawn, UpToAttributes, empty_update}
use Rattle.octseq_bgp.specs.Written.{WrittenAttribute, WrittenUpdate, body_octets, update_octets, UpdateFits}
use Rattle.octseq_bgp.specs.Written.{prefixes_octets, attributes_octets, update_body, longest, PathFits}
use Rattle.octseq_bgp.specs.Written.{AttributeFits}
use Rattle.octseq_bgp.specs.declared.message.update_builder.part.MpList.{MpList}
use Rattle.octseq_bgp.specs.declared.prefix.PathId.{PathId}
use Rattle.octseq_bgp.specs.declared.session.SessionConfig.{SessionConfig}
use Rattle.octseq_bgp.proofs.UpdateParts.{body_long}

-- the number of octets of an UPDATE
pub update_long : (u : WrittenUpdate) → length (update_octets u) ≡ 23 + length (prefixes_octets u.withdrawn)
    + length (attributes_octets u.attributes) + length (prefixes_octets u.announced)
update_long u =
    let body = body_long (prefixes_octets u.withdrawn) (attributes_octets u.attributes) (prefixes_octets u.announced) in
    let all = long_after (19 + length (update_body u)) 2 (update_body u) in
    omega (arith, body, all)

pub longest_most : (s : SessionConfig) → longest s ≤ 65535
longest_most s = elim s.extended_message as
    (λ b. (if b then 65535 else 4096) ≤ 65535) [ true ↦ omega arith | false ↦ omega arith ]

-- ---- that an UPDATE fits is a fact

path_once : (paths : Bool) (id : Option PathId) → IsProp (PathFits paths id)
path_once true (Some id) = le_prop {n = suc id.0} {m = 256 ^ 4}
path_once true None = λ a. absurd a
path_once false (Some id) = λ a. absurd a
path_once false None = Unit-prop

pub attribute_once : (a : WrittenAttribute) → IsProp (AttributeFits a)
attribute_once a = hlevel props

-- ---- what a builder holds

module _ {B : Type 0} {Reaches : WrittenUpdate → Type 0} {s : SessionConfig} {parts : PartOctets B}
    {open_list : Option MpList} {open_at : ℕ} (held : HeldUpdate Reaches s parts open_list open_at) where
  held_all : (UpdateFits s held.0) × (parts.withdrawn ≡ prefixes_octets held.0.withdrawn)
      × (parts.attributes ≡ attributes_octets held.0.attributes) × (parts.announced ≡ prefixes_octets held.0.announced)
  held_all = ∥∥₁_elim held.1 (hlevel (props, path_once))
      (λ x. (x.fits, x.withdrawn_is, x.attributes_is, x.announced_is))

  pub held_fits : UpdateFits s held.0
  held_fits = held_all.0

  -- the octets of its parts
  pub held_withdrawn : parts.withdrawn ≡ prefixes_octets held.0.withdrawn
  held_withdrawn = held_all.1

  pub held_attributes : parts.attributes ≡ attributes_octets held.0.attributes
  held_attributes = held_all.2

  pub held_announced : parts.announced ≡ prefixes_octets held.0.announced
  held_announced = held_all.3

  -- and of all
  pub held_octets : body_octets parts.withdrawn parts.attributes parts.announced ≡ update_body held.0
  held_octets =
      ap (λ w. body_octets w parts.attributes parts.announced) held_withdrawn
      ∙ ap (λ a. body_octets (prefixes_octets held.0.withdrawn) a parts.announced) held_attributes
      ∙ ap (body_octets (prefixes_octets held.0.withdrawn) (attributes_octets held.0.attributes)) held_announced

  -- up to another part, or with another list open
  pub held_as : {Others : WrittenUpdate → Type 0} {other_list : Option MpList} {other_at : ℕ}
      → (Reaches held.0 → Others held.0)
      → (IsListOpen open_list open_at held.0.attributes → IsListOpen other_list other_at held.0.attributes)
      → HeldUpdate Others s parts other_list other_at
  held_as reaches opens = (
    held.0,
    ∥∥₁_map held.1 (λ x. record {
      withdrawn_is = x.withdrawn_is;
      attributes_is = x.attributes_is;
      announced_is = x.announced_is;
      fits = x.fits;
      reaches = reaches x.reaches;
      opened = opens x.opened;
    }),
  )

-- the UPDATEs of two builders with the same parts are equal
pub held_same : {B : Type 0} {Reaches Others : WrittenUpdate → Type 0} {s : SessionConfig} {parts : PartOctets B}
    {open_list other_list : Option MpList} {open_at other_at : ℕ} (a : HeldUpdate Reaches s parts open_list open_at)
    (b : HeldUpdate Others s parts other_list other_at) → a.0 ≡ b.0
held_same a b = ∥∥₁_elim b.1 (Coded-set update_code a.0 b.0) (λ y. held_is a y)

-- ---- an UPDATE that says nothing

pub longest_least : (s : SessionConfig) → 4096 ≤ longest s
longest_least s = elim s.extended_message as
    (λ b. 4096 ≤ (if b then 65535 else 4096)) [ true ↦ omega arith | false ↦ omega arith ]

pub empty_held : {B : Type 0} (s : SessionConfig) (parts : PartOctets B) → parts.withdrawn ≡ [] → parts.attributes ≡ []
    → parts.announced ≡ [] → IsHeld UpToWithdrawn s parts None 0 empty_update
empty_held s parts withdrawn attributes announced =
    let long = update_long empty_update in
    let least = longest_least s in
    record {
      withdrawn_is = withdrawn;
      attributes_is = attributes;
      announced_is = announced;
      fits = record { withdrawn = tt; attributes = tt; announced = tt; short = omega (arith, long, least) };
      reaches = (refl, refl);
      opened = tt;
    }

-- a builder's octets are as many as its UPDATE has
pub held_total : {B : Type 0} {Reaches : WrittenUpdate → Type 0} {s : SessionConfig} {parts : PartOctets B}
    {open_list : Option MpList} {open_at : ℕ} (held : HeldUpdate Reaches s parts open_list open_at)
    → 23 + length parts.withdrawn + length parts.attributes + length parts.announced ≡ length (update_octets held.0)
held_total held =
    let all = update_long held.0 in
    omega (
      arith,
      all,
      ap length (held_withdrawn held),
      ap length (held_attributes held),
      ap length (held_announced held),
    )

-- and few enough
pub held_long : {B : Type 0} {Reaches : WrittenUpdate → Type 0} {s : SessionConfig} {parts : PartOctets B}
    {open_list : Option MpList} {open_at : ℕ} → HeldUpdate Reaches s parts open_list open_at
    → 23 + length parts.withdrawn + length parts.attributes + length parts.announced ≤ longest s
held_long held =
    let fits = held_fits held in
    let short = fits.short in
    omega (arith, short, held_total held)

-- it has nothing after its part
pub held_withdrawn_up : {B : Type 0} {s : SessionConfig} {parts : PartOctets B} {open_list : Option MpList}
    {open_at : ℕ}
    (held : HeldUpdate UpToWithdrawn s parts open_list open_at) → UpToWithdrawn held.0
held_withdrawn_up held = ∥∥₁_elim held.1 (hlevel (codes, attribute_code, written_prefix_code, Coded-set))
    (λ x. x.reaches)

pub held_attributes_up : {B : Type 0} {s : SessionConfig} {parts : PartOctets B} {open_list : Option MpList}
    {open_at : ℕ}
    (held : HeldUpdate UpToAttributes s parts open_list open_at) → UpToAttributes held.0
held_attributes_up held = ∥∥₁_elim held.1 (Coded-set (coded_list written_prefix_code) held.0.announced [])
    (λ x. x.reaches)

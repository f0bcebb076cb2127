-- The UPDATE that a builder holds. There is only one.
use Rattle.std.specs.Prelude.{◌≡◌, ℕ, Option}
use Rattle.std.proofs.Common.{sym, ◌∙◌, arith}
use Rattle.std.proofs.Math.Logic.{∥∥₁_prop, ∥∥₁_elim}
use Rattle.std.specs.Coded.{Coded, Coded-set, codes}
use mathlib.Core.HLevel.{Σ_prop_path}
use Rattle.octseq_bgp.specs.PartOctets.{PartOctets}
use Rattle.octseq_bgp.specs.ReadWritten.{prefixes_once, attributes_once}
use Rattle.octseq_bgp.specs.Session.{adds_path}
use Rattle.octseq_bgp.specs.Writing.{IsHeld}
use Rattle.octseq_bgp.specs.Written.{WrittenPrefix, WrittenAttribute, WrittenUpdate, prefixes_octets, attributes_octets}
use Rattle.octseq_bgp.specs.Written.{UpdateFits}
use Rattle.octseq_bgp.specs.declared.family.AfiSafiType.TheVariants as family
use Rattle.octseq_bgp.specs.declared.message.update_builder.part.MpList.{MpList}
use Rattle.octseq_bgp.specs.declared.session.SessionConfig.{SessionConfig}

-- the UPDATE
abbrev pub HeldUpdate : {B : Type 0} → (WrittenUpdate → Type 0) → SessionConfig → PartOctets B → Option MpList → ℕ
    → Type 0
HeldUpdate Reaches s parts open_list open_at = (u : WrittenUpdate) × ∥ IsHeld Reaches s parts open_list open_at u ∥₁

-- ---- lemmas: proved below this line, so what the words mean is read above it

-- ---- codes, by which values are equal in at most one way
pub written_prefix_code : Coded WrittenPrefix
written_prefix_code = Prim.hlevel codes

pub attribute_code : Coded WrittenAttribute
attribute_code = Prim.hlevel codes

pub update_code : Coded WrittenUpdate
update_code = Prim.hlevel (codes, written_prefix_code, attribute_code)

-- ---- only one

-- UPDATEs of the same octets are equal
pub same_update : {s : SessionConfig} (u v : WrittenUpdate) → UpdateFits s u → UpdateFits s v
    → prefixes_octets u.withdrawn ≡ prefixes_octets v.withdrawn
    → attributes_octets u.attributes ≡ attributes_octets v.attributes
    → prefixes_octets u.announced ≡ prefixes_octets v.announced → u ≡ v
same_update {s} u v here there withdrawn attributes announced =
    let paths = adds_path s.add_path family.Ipv4Unicast in
    let first = prefixes_once 32 (omega arith) paths u.withdrawn v.withdrawn here.withdrawn there.withdrawn withdrawn in
    let second = attributes_once u.attributes v.attributes here.attributes there.attributes attributes in
    let third = prefixes_once 32 (omega arith) paths u.announced v.announced here.announced there.announced announced in
    λ i. record { withdrawn = first i; attributes = second i; announced = third i }

-- it is any UPDATE that those octets are
pub held_is : {B : Type 0} {Reaches Others : WrittenUpdate → Type 0} {s : SessionConfig} {parts : PartOctets B}
    {open_list other_list : Option MpList} {open_at other_at : ℕ} (held : HeldUpdate Reaches s parts open_list open_at)
    {u : WrittenUpdate} → IsHeld Others s parts other_list other_at u → held.0 ≡ u
held_is held {u} is = ∥∥₁_elim held.1 (Coded-set update_code held.0 u) (λ x. same_update held.0 u x.fits is.fits
    (sym x.withdrawn_is ∙ is.withdrawn_is) (sym x.attributes_is ∙ is.attributes_is)
    (sym x.announced_is ∙ is.announced_is))

pub held_once : {B : Type 0} (Reaches : WrittenUpdate → Type 0) (s : SessionConfig) (parts : PartOctets B)
    (open_list : Option MpList) (open_at : ℕ) → IsProp (HeldUpdate Reaches s parts open_list open_at)
held_once Reaches s parts open_list open_at a b =
    Σ_prop_path (λ u. ∥∥₁_prop) (∥∥₁_elim b.1 (Coded-set update_code a.0 b.0) (λ y. held_is a y))

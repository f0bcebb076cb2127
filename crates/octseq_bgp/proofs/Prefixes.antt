-- The prefixes that are pushed.
use Rattle.std.proofs.Common.{◌≡◌, ℕ, zero, suc, ◌+◌, ◌^◌, ◌<◌, Bool, true, false, Option, Some, None, List, ◌++◌}
use Rattle.std.proofs.Common.{length, refl, sym, ap, ◌∙◌}
use Rattle.std.specs.Prelude.{IfSome}
use Rattle.std.specs.Option.{is_some}
use Rattle.octseq_bgp.specs.Family.{afi_of}
use Rattle.octseq_bgp.specs.Held.{HeldUpdate}
use Rattle.octseq_bgp.specs.Parts.{octets_of_bits}
use Rattle.octseq_bgp.specs.PartOctets.{PartOctets}
use Rattle.octseq_bgp.specs.Prefix.{most_bits}
use Rattle.octseq_bgp.specs.PrefixValue.{address_from}
use Rattle.octseq_bgp.specs.Session.{adds_path}
use Rattle.octseq_bgp.specs.Written.{IsPrefixOf, PathFits, PrefixFits, WrittenPrefix, prefix_octets, prefixes_octets}
use Rattle.octseq_bgp.specs.Written.{written_prefix}
use Rattle.octseq_bgp.specs.Writing.{UpToAnnounced, UpToWithdrawn, more_announced, more_withdrawn}
use Rattle.octseq_bgp.specs.declared.family.AfiSafiType.{AfiSafiType}
use Rattle.octseq_bgp.specs.declared.family.AfiSafiType.TheVariants as family
use Rattle.octseq_bgp.specs.declared.message.update_builder.part.MpList.{MpList}
use Rattle.octseq_bgp.specs.declared.prefix.PathId.{PathId}
use Rattle.octseq_bgp.specs.declared.prefix.Prefix.{Prefix}
use Rattle.octseq_bgp.specs.declared.session.SessionConfig.{SessionConfig}
use Rattle.octseq_bgp.proofs.Pushes.{Wanted, all_more, one_more}
use Rattle.octseq_bgp.proofs.Updates.{held_fits, held_withdrawn_up, held_withdrawn, held_attributes, held_announced}

pub address_long : (n i bits : ℕ) (octets : List ℕ) → length (address_from n i bits octets) ≡ n
address_long zero i bits octets = refl
address_long (suc n) i bits octets = ap suc (address_long n (i + 1) bits octets)

path_fits : (paths : Bool) (path_id : Option PathId) → is_some path_id ≡ paths → IfSome path_id (λ id. id.0 < 256 ^ 4)
    → PathFits paths path_id
path_fits true (Some id) same few = few
path_fits true None same few = absurd (cc)
path_fits false (Some id) same few = absurd (cc)
path_fits false None same few = tt

-- a prefix of a family is written as one that fits
pub written_fits : (s : SessionConfig) (f : AfiSafiType) (p : Prefix) (path_id : Option PathId)
    → IsPrefixOf s f p path_id
    → IfSome path_id (λ id. id.0 < 256 ^ 4)
    → PrefixFits (most_bits (afi_of f)) (adds_path s.add_path f) (written_prefix p path_id)
written_fits s f p path_id is few = record {
  path_id = path_fits (adds_path s.add_path f) path_id is.path few;
  bits = is.bits;
  octets = address_long (octets_of_bits p.len) 0 p.len p.address;
}

-- the UPDATE with another announced prefix
pub announced_wanted : {B : Type 0} {s : SessionConfig} {parts : PartOctets B} {open_list : Option MpList} {open_at : ℕ}
    (held : HeldUpdate UpToAnnounced s parts open_list open_at) (p : WrittenPrefix) (octets : List ℕ)
    → PrefixFits 32 (adds_path s.add_path family.Ipv4Unicast) p → octets ≡ prefix_octets p
    → Wanted UpToAnnounced s parts.withdrawn parts.attributes (parts.announced ++ octets) (more_announced held.0 p)
announced_wanted {s = s} {parts = parts} held p octets fits is =
    let now = held_fits held in
    record {
      withdrawn_is = held_withdrawn held;
      attributes_is = held_attributes held;
      announced_is = ap (λ o. o ++ octets) (held_announced held) ∙ ap (λ o. prefixes_octets held.0.announced ++ o) is
          ∙ sym (one_more prefix_octets held.0.announced p);
      withdrawn = now.withdrawn;
      attributes = now.attributes;
      announced = all_more (PrefixFits 32
          (adds_path s.add_path family.Ipv4Unicast)) held.0.announced now.announced fits;
      reaches = tt;
    }

-- and with another withdrawn one
pub withdrawn_wanted : {B : Type 0} {s : SessionConfig} {parts : PartOctets B} {open_list : Option MpList} {open_at : ℕ}
    (held : HeldUpdate UpToWithdrawn s parts open_list open_at) (p : WrittenPrefix) (octets : List ℕ)
    → PrefixFits 32 (adds_path s.add_path family.Ipv4Unicast) p → octets ≡ prefix_octets p
    → Wanted UpToWithdrawn s (parts.withdrawn ++ octets) parts.attributes parts.announced (more_withdrawn held.0 p)
withdrawn_wanted {s = s} {parts = parts} held p octets fits is =
    let now = held_fits held in
    record {
      withdrawn_is = ap (λ o. o ++ octets) (held_withdrawn held) ∙ ap (λ o. prefixes_octets held.0.withdrawn ++ o) is
          ∙ sym (one_more prefix_octets held.0.withdrawn p);
      attributes_is = held_attributes held;
      announced_is = held_announced held;
      withdrawn = all_more (PrefixFits 32
          (adds_path s.add_path family.Ipv4Unicast)) held.0.withdrawn now.withdrawn fits;
      attributes = now.attributes;
      announced = now.announced;
      reaches = held_withdrawn_up held;
    }

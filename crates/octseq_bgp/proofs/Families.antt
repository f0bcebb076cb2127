-- A family is known by its numbers.
use Rattle.std.proofs.Common.{◌≡◌, ℕ, if◌then◌else◌, nat_eq, refl, sym, ap, ◌∙◌}
use Rattle.octseq_bgp.specs.Family.{afi_number, safi_number}
use Rattle.octseq_bgp.specs.declared.family.AfiSafiType.{AfiSafiType}
use Rattle.octseq_bgp.specs.declared.family.AfiSafiType.TheVariants as family

abbrev family_of : ℕ → ℕ → AfiSafiType
family_of afi safi =
    if nat_eq afi 1 then (if nat_eq safi 1 then family.Ipv4Unicast else family.Ipv4Multicast)
    else (if nat_eq safi 1 then family.Ipv6Unicast else family.Ipv6Multicast)

family_again : (f : AfiSafiType) → family_of (afi_number f) (safi_number f) ≡ f
family_again family.Ipv4Unicast = refl
family_again family.Ipv4Multicast = refl
family_again family.Ipv6Unicast = refl
family_again family.Ipv6Multicast = refl

pub one_family : (f g : AfiSafiType) → afi_number f ≡ afi_number g → safi_number f ≡ safi_number g → f ≡ g
one_family f g afi safi =
    sym (family_again f) ∙ ap (λ n. family_of n (safi_number f)) afi ∙ ap (family_of (afi_number g)) safi
    ∙ family_again g

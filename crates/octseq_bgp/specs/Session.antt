-- How messages of a session are read: RFC 6793 (four-octet AS numbers), RFC 7911 (path ids), RFC 8654 (extended
-- messages).
use Rattle.std.specs.Prelude.{Bool}
use Rattle.octseq_bgp.specs.declared.family.AfiSafiType.{AfiSafiType}
use Rattle.octseq_bgp.specs.declared.family.AfiSafiType.TheVariants as family
use Rattle.octseq_bgp.specs.declared.session.AddPath.{AddPath}

-- a family has path ids before its prefixes
abbrev pub adds_path : AddPath → AfiSafiType → Bool
adds_path add_path family.Ipv4Unicast = add_path.ipv4_unicast
adds_path add_path family.Ipv4Multicast = add_path.ipv4_multicast
adds_path add_path family.Ipv6Unicast = add_path.ipv6_unicast
adds_path add_path family.Ipv6Multicast = add_path.ipv6_multicast

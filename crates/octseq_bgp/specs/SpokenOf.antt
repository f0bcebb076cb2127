-- What contracts see of what capabilities say together.
use Rattle.std.specs.Prelude.{Option, Some, None, List, []}
use Rattle.octseq.specs.declared.AsOctets.{Ghosts}
use Rattle.octseq_bgp.specs.Items.{items_left}
use Rattle.octseq_bgp.specs.Negotiated as said
use Rattle.octseq_bgp.specs.declared.capability.family_tuple.FamilyTuple.{FamilyTuple}
use Rattle.octseq_bgp.specs.declared.item.Item.{Ghosts as ItemGhosts}
use Rattle.octseq_bgp.specs.declared.item.Items.{Items}
use Rattle.octseq_bgp.specs.declared.session.negotiated.Advertised.{Advertised}

-- the families of a list, or none
abbrev pub paths_of : {R : Type 0} {o : Ghosts R} {t : ItemGhosts FamilyTuple}
    → Option (Items R FamilyTuple o t) → List t.Found
paths_of (Some items) = items_left items
paths_of None = []

-- what capabilities said
abbrev pub spoken_of : {R : Type 0} {g : Ghosts R} → Advertised R g → said.Advertised
spoken_of s = record {
  four_octet_asn = s.four_octet_asn;
  extended_message = s.extended_message;
  paths = paths_of s.paths;
}

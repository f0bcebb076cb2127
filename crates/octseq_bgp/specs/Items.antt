-- Items of one size, such as communities.
use Rattle.std.specs.Prelude.{List}
use Rattle.octseq.specs.declared.AsOctets.{Ghosts as OctetsGhosts}
use Rattle.octseq_bgp.specs.declared.item.Item.{Ghosts}
use Rattle.octseq_bgp.specs.declared.item.Items.{Items}

-- the items that are left
abbrev pub items_left : {R T : Type 0} {o : OctetsGhosts R} {t : Ghosts T} → Items R T o t → List t.Found
items_left items = items.ahead.0

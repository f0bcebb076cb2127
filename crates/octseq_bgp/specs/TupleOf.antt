-- What contracts see of address families with flags.
use Rattle.std.specs.Prelude.{ℕ}
use Rattle.octseq_bgp.specs.declared.capability.family_tuple.FamilyTuple.{FamilyTuple}

-- the AFI, the SAFI and the flags
abbrev pub tuple_of : FamilyTuple → ℕ × (ℕ × ℕ)
tuple_of t = (t.afi, (t.safi, t.flags))

-- What contracts see of faults.
use Rattle.std.specs.Prelude.{ℕ, ◌+◌, List, Option, Some, None, length}
use Rattle.octseq.specs.declared.AsOctets.{Ghosts}
use Rattle.octseq_bgp.specs.Fault as said
use Rattle.octseq_bgp.specs.Fault.{AreFaults, Marks}
use Rattle.octseq_bgp.specs.Handling.{rank}
use Rattle.octseq_bgp.specs.Lists.{attribute_of, attributes_left, attributes_session}
use Rattle.octseq_bgp.specs.Parts.{Attribute}
use Rattle.octseq_bgp.specs.declared.attribute.PathAttribute.{PathAttribute}
use Rattle.octseq_bgp.specs.declared.message.fault.Fault.{Fault}
use Rattle.octseq_bgp.specs.declared.message.fault.Faults.{Faults}

abbrev pub attribute_if_any : {R : Type 0} {g : Ghosts R} → Option (PathAttribute R g) → Option Attribute
attribute_if_any (Some attribute) = Some (attribute_of attribute)
attribute_if_any None = None

-- a fault
abbrev pub fault_of : {R : Type 0} {g : Ghosts R} → Fault R g → said.AttributeFault
fault_of f = record { attribute = attribute_if_any f.attribute; rank = rank f.handling }

-- These are the faults that are left, given any attributes whose types were seen.
abbrev pub AreLeft : {R : Type 0} {g : Ghosts R} → Faults R g → List said.AttributeFault → Type 0
AreLeft q row = (before : List Attribute) → Marks q.seen before
    → AreFaults (attributes_session q.attributes) q.external before (attributes_left q.attributes) (rank q.missing) row

-- at most this many faults are left
abbrev pub faults_most : {R : Type 0} {g : Ghosts R} → Faults R g → ℕ
faults_most q = length (attributes_left q.attributes) + rank q.missing

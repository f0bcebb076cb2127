-- The number of turns that reading a value takes: one for each entry of its lists.
use Rattle.std.specs.Prelude.{ℕ, ◌+◌, length}
use Rattle.octseq_bgp.specs.Capability.{CapabilityValue, ParameterValue}
use Rattle.octseq_bgp.specs.Message.{Message}
use Rattle.octseq_bgp.specs.Update.{Update}
use Rattle.octseq_bgp.specs.Value.{Value}

-- an UPDATE: its prefixes and attributes
abbrev pub update_turns : Update → ℕ
update_turns u = length u.withdrawn + (length u.attributes + length u.announced)

-- a message: those, or the parameters of an OPEN
abbrev pub message_turns : Message → ℕ
message_turns (Message.opens o) = length o.parameters
message_turns (Message.update u) = update_turns u
message_turns _ = 0

-- a parameter: its capabilities
abbrev pub parameter_turns : ParameterValue → ℕ
parameter_turns (ParameterValue.capabilities row) = length row
parameter_turns _ = 0

-- a capability: its families with path ids
abbrev pub capability_turns : CapabilityValue → ℕ
capability_turns (CapabilityValue.add_path row) = length row
capability_turns _ = 0

-- an attribute: its segments and prefixes
abbrev pub value_turns : Value → ℕ
value_turns (Value.as_path path) = length path.1
value_turns (Value.reach it) = length it.prefixes
value_turns (Value.unreach it) = length it.prefixes
value_turns (Value.as4_path path) = length path.1
value_turns _ = 0

-- How many rows a BGP message has at most. Contracts for C don't refer to it.
use Rattle.std.specs.Prelude.{ℕ, ◌+◌, List, length}
use Rattle.std.specs.List.{sum_by}
use Rattle.octseq.specs.Window.{left}
use Rattle.octseq_bgp.specs.Message.{Message}
use Rattle.octseq_bgp.specs.Parts.{Attribute, inside_of}
use Rattle.octseq_bgp.specs.Update.{Update}

-- attributes: one for each, and one for each octet in them
abbrev pub attributes_room : List Attribute → ℕ
attributes_room = sum_by (λ e. 1 + left (inside_of e))

-- an UPDATE
abbrev pub update_room : Update → ℕ
update_room u = length u.withdrawn + (attributes_room u.attributes + length u.announced)

-- a message
abbrev pub message_room : Message → ℕ
message_room (Message.update u) = update_room u
message_room _ = 0

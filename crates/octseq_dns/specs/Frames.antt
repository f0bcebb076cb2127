-- Streams of messages, each preceded by its length in two octets: RFC 1035, 4.2.2.
use Rattle.std.specs.List.{flat_map}
use Rattle.std.specs.Prelude.{ℕ, ◌<◌, List, length}
use Rattle.octseq.specs.Code.{HasFront}
use Rattle.octseq.specs.Part.{part_of}

-- the length fits in two octets
abbrev pub FitsStream : List ℕ → Type 0
FitsStream message = length message < 65536

-- the octets of messages, one after another, each preceded by its length
abbrev pub stream_of : List (List ℕ) → List ℕ
stream_of messages = flat_map (part_of 2) messages

-- octets at the end of a stream that aren't a whole message: at least one, and no message is at their front
abbrev pub IsMessageCut : List ℕ → Type 0
IsMessageCut octets = (0 < length octets) × ¬ HasFront FitsStream (part_of 2) octets

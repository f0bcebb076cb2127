-- Records are of one code, so the laws of codes hold for them.
use Rattle.std.proofs.Common.{ℕ, ◌<◌, List, length, arith}
use Rattle.std.proofs.lemmas.List.{length-append}
use Rattle.octseq.proofs.Codes.{integer_code, part_code, pair_code}
use Rattle.octseq.proofs.Repeats.{HasOctets}
use Rattle.octseq.proofs.Written.{length_be}
use Rattle.octseq.specs.Code.{IsCode}
use Rattle.octseq.specs.Integer.{octets_be}
use Rattle.octseq.specs.Part.{part_of}
use Rattle.octseq_callers.specs.Record.{record_of, IsRecord}

-- the octets of a record given as a pair
abbrev pub spelled : ℕ × List ℕ → List ℕ
spelled pair = record_of pair.0 pair.1

-- the front of octets decides which record it is, and what follows it
pub record_code : IsCode IsRecord spelled
record_code = pair_code (λ key. key < 65536) (octets_be 2) (λ value. length value < 256) (part_of 1) (integer_code 2)
    (part_code 1)

-- every record has at least one octet
pub has_octets : HasOctets spelled
has_octets (key, value) = let all = length-append (octets_be 2 key) (part_of 1 value) in let head = length_be 2 key in
    omega arith

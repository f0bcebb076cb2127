use Rattle.std.proofs.Common.{refl, arith}
use Rattle.octseq.specs.Parser.{window}
use Rattle.octseq_format.specs.Pair.{◌then◌}
use Rattle.octseq_format.proofs.Nones.{none_second}
use Rattle.octseq_bgp.specs.OneParts.{one_number}
use Rattle.octseq_bgp.specs.Parts.{IsNumber, IsCounted}
use Rattle.octseq_bgp.proofs.Moves.{onward_number}
use Rattle.octseq_bgp.proofs.Wholes.{counted_left}
use Rattle.octseq_mrt.specs.Address.{IsNumberIf}
use Rattle.octseq_mrt.specs.OneListed.{one_optional, onward_optional}
use Rattle.octseq_mrt.proofs.rib.EntryParts.parse.Goals as goal

pub returns-in_err-octets-clause-malformed : goal.returns-in_err-octets-clause-malformed
returns-in_err-octets-clause-malformed g c = λ _.
    let optional = IsNumberIf c.args.paths in
    none_second (IsNumber 2) (IsNumber 4 then optional then IsCounted 2) (window c.args.parser.now)
    (window c.parse.new.parser) c.in_ok-peer_index.peer_index (one_number 2) c.in_ok-peer_index.ensures.value
    (none_second (IsNumber 4) (optional then IsCounted 2) (window c.parse.new.parser) (window c.parse-2.new.parser)
    c.in_ok-originated_time.originated_time (one_number 4) c.in_ok-originated_time.ensures.value
    (none_second optional (IsCounted 2) (window c.parse-2.new.parser) (window c.parse_optional.new.parser)
    c.in_ok-path_id.path_id (one_optional c.args.paths) c.in_ok-path_id.ensures.number
    (c.in_err-octets.ensures.malformed refl)))

pub returns-clause-room : goal.returns-clause-room
returns-clause-room g c =
    let first = (onward_number 2).less (window c.args.parser.now) c.in_ok-peer_index.peer_index
    (window c.parse.new.parser) c.in_ok-peer_index.ensures.value in
    let second = (onward_number 4).less (window c.parse.new.parser) c.in_ok-originated_time.originated_time
    (window c.parse-2.new.parser) c.in_ok-originated_time.ensures.value in
    let third = (onward_optional c.args.paths).less (window c.parse-2.new.parser) c.in_ok-path_id.path_id
    (window c.parse_optional.new.parser) c.in_ok-path_id.ensures.number in
    let all = counted_left 2 (window c.parse_optional.new.parser) (window c.in_ok-octets.octets)
    (window c.parse-3.new.parser) c.in_ok-octets.ensures.value in
    omega (arith, first, second, third, all)

use Rattle.std.proofs.Common.{refl}
use Rattle.octseq.specs.Parser.{window}
use Rattle.octseq_format.specs.Pair.{◌then◌}
use Rattle.octseq_format.proofs.Nones.{none_second}
use Rattle.octseq_bgp.specs.OneParts.{one_number}
use Rattle.octseq_bgp.specs.Parts.{IsNumber}
use Rattle.octseq_bgp.specs.Path.{asn_size}
use Rattle.octseq_mrt.specs.Address.{IsNumberIf}
use Rattle.octseq_mrt.specs.Bgp4Mp.{ArePeers}
use Rattle.octseq_mrt.specs.OneListed.{one_optional}
use Rattle.octseq_mrt.proofs.bgp4mp.Front.parse.Goals as goal

pub returns-in_err-microseconds-clause-malformed : goal.returns-in_err-microseconds-clause-malformed
returns-in_err-microseconds-clause-malformed g c = λ _ it v is.
    c.in_err-microseconds.ensures.malformed refl it.0 is.0 is.1

pub returns-in_err-addresses-clause-malformed : goal.returns-in_err-addresses-clause-malformed
returns-in_err-addresses-clause-malformed g c = λ _.
    let asn = IsNumber (asn_size c.args.wide) in
    let one = one_number (asn_size c.args.wide) in
    let more = IsNumber 2 then ArePeers in
    none_second (IsNumberIf c.args.extended) (asn then asn then more) (window c.args.parser.now)
    (window c.parse_optional.new.parser) c.in_ok-microseconds.microseconds (one_optional c.args.extended)
    c.in_ok-microseconds.ensures.number
    (none_second asn (asn then more) (window c.parse_optional.new.parser) (window c.parse_asn.new.parser)
    c.in_ok-peer_asn.peer_asn.0 one c.in_ok-peer_asn.ensures.asn
    (none_second asn more (window c.parse_asn.new.parser) (window c.parse_asn-2.new.parser)
    c.in_ok-local_asn.local_asn.0 one c.in_ok-local_asn.ensures.asn
    (none_second (IsNumber 2) ArePeers (window c.parse_asn-2.new.parser) (window c.parse.new.parser)
    c.in_ok-interface.interface (one_number 2) c.in_ok-interface.ensures.value
    (c.in_err-addresses.ensures.malformed refl))))

use Rattle.std.proofs.Common.{ap, arith, map, length, take, drop, ◌++◌, ◌∙◌}
use Rattle.std.proofs.lemmas.List.{length-map}
use Rattle.octseq.specs.Parser.{window}
use Rattle.octseq_bgp.proofs.Numbers.{numbers_are}
use Rattle.octseq_bgp.specs.Path.{segment_number}
use Rattle.octseq_bgp.specs.PathOf.{asns_left}
use Rattle.octseq_c.specs.BgpPath.{row_of_asn}
use Rattle.octseq_c.proofs.bgp.path.fill_segment.Goals as goal

pub fill_asns-requires : goal.fill_asns-requires
fill_asns-requires g c =
    let s = c.args.segment.now in
    let row = row_of_asn (segment_number s.kind) s.count in
    let asns = asns_left c.asns.result in
    let same = ap (λ asns. length (map row asns))
    (numbers_are s.wide (window s.octets) s.count asns c.asns.ensures s.whole) in
    let long = length-map asns row in
    let room = c.requires in
    omega (arith, room, same, long)

pub returns-clause-end : goal.returns-clause-end
returns-clause-end g c =
    let s = c.args.segment.now in
    let row = row_of_asn (segment_number s.kind) s.count in
    let asns = asns_left c.asns.result in
    let same = ap (λ asns. length (map row asns))
    (numbers_are s.wide (window s.octets) s.count asns c.asns.ensures s.whole) in
    let long = length-map asns row in
    let end = c.fill_asns.ensures.end in
    omega (arith, end, same, long)

pub returns-clause-out : goal.returns-clause-out
returns-clause-out g c =
    let s = c.args.segment.now in
    let asns = asns_left c.asns.result in
    let old = c.args.out.now in
    c.fill_asns.ensures.out
    ∙ ap (λ rows. take c.args.from old ++ (rows ++ drop c.fill_asns.result old))
    (ap (λ kind. map (row_of_asn kind c.from.result) asns) c.segment_number-kind.ensures
    ∙ ap (λ count. map (row_of_asn (segment_number s.kind) count) asns) c.from.ensures
    ∙ ap (map (row_of_asn (segment_number s.kind) s.count))
    (numbers_are s.wide (window s.octets) s.count asns c.asns.ensures s.whole))

use Rattle.std.proofs.Common.{◌-◌, rules, arith}
use Rattle.octseq_bgp.specs.Stream.{IsMarked}
use Rattle.octseq_bgp.proofs.Streams.{front_header}
use Rattle.octseq_bgp.proofs.message.reader.SessionConfigFraming.parse_header.Goals as goal

pub returns-clause-header : goal.returns-clause-header
returns-clause-header c =
    let front = c.args.octets.now in
    let len = c.length_of-len.result in
    let marked : IsMarked front = search rules in
    let may = c.requires in
    let there = c.if-octets-lt-FRONT.false in
    let says = c.length_of-len.ensures in
    let least = c.if-len-lt-LEAST.false in
    let most = c.if-len-longest_message.false in
    let longest = c.longest_message.ensures in
    front_header c.args.self.now front (len - 18) (record {
      marked = marked;
      long = omega (arith, may, there);
      says = omega (arith, says, least);
      least = omega (arith, least);
      most = omega (arith, least, most, longest);
    })

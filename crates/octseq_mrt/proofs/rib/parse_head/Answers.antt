use Rattle.octseq_mrt.proofs.rib.parse_head.Goals as goal

pub returns-in-Ipv4-clause-malformed : goal.returns-in-Ipv4-clause-malformed
returns-in-Ipv4-clause-malformed g c = rw c.in-Ipv4.is c.parse.ensures.malformed

pub returns-in-Ipv6-clause-malformed : goal.returns-in-Ipv6-clause-malformed
returns-in-Ipv6-clause-malformed g c = rw c.in-Ipv6.is c.parse-in-Ipv6.ensures.malformed

use Rattle.std.proofs.Common.{arith}
use Rattle.octseq_bgp.specs.PathOf.{path_of}
use Rattle.octseq_c.specs.BgpSession.{session_of}
use Rattle.octseq_c.proofs.BgpPath.{are_hops, one_hops, path_few}
use Rattle.octseq_c.proofs.Puts.{puts_ok, puts_no_room, puts_none}
use Rattle.octseq_c.proofs.bgp.path.put_hops.Goals as goal

pub hops_count-requires : goal.hops_count-requires
hops_count-requires g c =
    let few = path_few (session_of c.args.session).four_octet_asn (g.R.AsOctets.content c.args.octets)
    (path_of c.in-Ok.path) c.in-Ok.ensures.path in
    omega (arith, few, c.requires.few)

pub returns-then-count-out-clause-puts : goal.returns-then-count-out-clause-puts
returns-then-count-out-clause-puts g c =
    puts_no_room (one_hops (session_of c.args.session) (g.R.AsOctets.content c.args.octets)) _
    (are_hops _ _ _ c.in-Ok.ensures.path) (omega (arith, c.hops_count.ensures, c.if-count-out.true))
    c.hops_count.ensures

pub returns-else-count-out-clause-puts : goal.returns-else-count-out-clause-puts
returns-else-count-out-clause-puts g c =
    puts_ok (one_hops (session_of c.args.session) (g.R.AsOctets.content c.args.octets)) _
    (are_hops _ _ _ c.in-Ok.ensures.path) (omega (arith, c.hops_count.ensures, c.if-count-out.false))
    c.hops_count.ensures c.fill_hops.ensures

pub returns-in-Err-clause-puts : goal.returns-in-Err-clause-puts
returns-in-Err-clause-puts g c =
    puts_none 2 (omega arith) (one_hops (session_of c.args.session) (g.R.AsOctets.content c.args.octets))

use Rattle.std.proofs.Common.{ap}
use Rattle.octseq_c.proofs.EdnsQueries.{edns_header_of}
use Rattle.octseq_c.proofs.edns.edns_front.Goals as goal

pub returns-clause-content : goal.returns-clause-content
returns-clause-content c =
    edns_header_of c.args.id c.args.flags (ap (λ made. made.content) c.new-made.ensures) c.push_u16.ensures.content
    c.push_u16-2.ensures.content c.push_u16-3.ensures.content c.push_u16-4.ensures.content
    c.push_u16-5.ensures.content c.push_u16-6.ensures.content

use Rattle.octseq_c.proofs.EdnsQueries.{opt_head_of}
use Rattle.octseq_c.proofs.edns.push_opt_head.Goals as goal

pub returns-clause-content : goal.returns-clause-content
returns-clause-content c =
    opt_head_of c.args.made.now.content c.args.payload c.args.flags c.args.len c.push.ensures.content
    c.push_u16.ensures.content c.push_u16-2.ensures.content c.push_u16-3.ensures.content
    c.push_u16-4.ensures.content c.push_u16-5.ensures.content

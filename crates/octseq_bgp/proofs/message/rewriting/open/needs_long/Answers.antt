use Rattle.std.proofs.Common.{map, arith}
use Rattle.octseq_bgp.specs.Lists.{parameters_left}
use Rattle.octseq_bgp.specs.OneOpen.{says_parameter}
use Rattle.octseq_bgp.proofs.RewrittenOpens.{needed_by_first, needed_by_len}
use Rattle.octseq_bgp.proofs.message.rewriting.open.needs_long.Goals as goal

pub returns-then-len-gt255-clause-is : goal.returns-then-len-gt255-clause-is
returns-then-len-gt255-clause-is g c =
    needed_by_len (map says_parameter (parameters_left c.args.parameters)) c.args.len c.requires (omega arith)

pub returns-clause-is : goal.returns-clause-is
returns-clause-is g c = needed_by_first (map says_parameter (parameters_left c.args.parameters)) c.args.len
    c.is_apart.result c.requires (omega arith) c.is_apart.ensures

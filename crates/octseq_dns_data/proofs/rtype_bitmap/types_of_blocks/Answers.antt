use Rattle.octseq_dns_data.proofs.RtypeOrder as order
use Rattle.octseq_dns_data.proofs.rtype_bitmap.types_of_blocks.Goals as goal

pub returns-clause-blocks : goal.returns-clause-blocks
returns-clause-blocks c = order.types_of_blocks

pub returns-clause-ascending : goal.returns-clause-ascending
returns-clause-ascending c = order.types_ascend

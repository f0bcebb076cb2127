use Rattle.std.proofs.Common.{arith}
use Rattle.std.proofs.lemmas.Grind.{common_steps}
use Rattle.octseq_core.proofs.Padding.{is_padded}
use Rattle.octseq_text.proofs.octets.conversions.ArrayOctetsFrom.try_octets_from.Goals as goal

pub returns-clause-padded : goal.returns-clause-padded
returns-clause-padded g c =
    is_padded g.row.N c.append_slice.new.self (g.Source.AsOctets.content c.args.source) (grind (arith, common_steps))
    (grind (arith, common_steps))

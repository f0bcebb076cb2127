use Rattle.std.proofs.Common.{◌∙◌, sym}
use Rattle.octseq_format.specs.Integers.{are_le}
use Rattle.octseq_format.proofs.widths.LeNumber.fixed_octets.Goals as goal

pub returns : goal.returns
returns g c = λ said fits. (are_le g.T.Width.width).many said fits ∙ sym c.octets.ensures

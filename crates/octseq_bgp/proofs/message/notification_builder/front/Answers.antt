use Rattle.std.proofs.Common.{refl}
use Rattle.octseq.specs.Integer.{octets_be}
use Rattle.octseq_bgp.specs.Composed.{header_octets}
use Rattle.octseq_bgp.proofs.message.notification_builder.front.Goals as goal

pub returns : goal.returns
unfolding header_octets octets_be
returns c = refl

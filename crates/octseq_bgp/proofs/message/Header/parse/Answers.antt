use Rattle.std.proofs.Common.{refl}
use Rattle.octseq_bgp.specs.MessageType as message_type
use Rattle.octseq_bgp.proofs.message.Header.parse.Goals as goal

pub returns-in_err-marker-clause-malformed : goal.returns-in_err-marker-clause-malformed
returns-in_err-marker-clause-malformed g c = λ _ h. c.in_err-marker.ensures.malformed refl (message_type.marker, h)

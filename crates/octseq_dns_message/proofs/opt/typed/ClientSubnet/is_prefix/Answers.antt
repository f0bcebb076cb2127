use Rattle.std.proofs.Common.{refl}
use Rattle.std.proofs.lemmas.Bool.{false≢true}
use Rattle.octseq_dns_message.proofs.opt.typed.ClientSubnet.is_prefix.Goals as goal

pub returns-in-None : goal.returns-in-None
returns-in-None g c = (
  λ is. absurd (false≢true is),
  λ is. absurd (c.in-None.ensures.none refl is.bits is.family),
)

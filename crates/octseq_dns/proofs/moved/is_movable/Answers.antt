use Rattle.std.proofs.Common.{refl}
use Rattle.octseq_dns.proofs.Moving.{typed_moves}
use Rattle.octseq_dns_message.specs.Said.{record_of}
use Rattle.octseq_dns.proofs.moved.is_movable.Goals as goal

pub returns-in_default : goal.returns-in_default
returns-in_default g c = (
  λ _. typed_moves (record_of c.args.entry.now) c.args.found.now c.in_default.not-Unknown c.requires,
  λ _. refl,
)

use Rattle.std.proofs.Common.{ap, length, refl}
use Rattle.octseq_dns.specs.Blank.{blank_message}
use Rattle.octseq_dns.proofs.Pushed.{begun_within, blank_written}
use Rattle.octseq_dns.proofs.builder.message.MessageBuilder+B+T.from_builder.Goals as goal

pub invariant_of-result : goal.invariant_of-result
invariant_of-result g c = (
  ∣ (
    blank_message,
    blank_written g.T.Compressor.most c.in_ok-message.message.state c.blank_header.result c.in_ok-message.ensures.state
        c.blank_header.ensures,
  ) ∣₁,
  (refl, refl, refl, refl),
)

pub returns-clause-written : goal.returns-clause-written
returns-clause-written g c =
    blank_written g.T.Compressor.most c.in_ok-message.message.state c.blank_header.result c.in_ok-message.ensures.state
    c.blank_header.ensures

pub returns-clause-within : goal.returns-clause-within
returns-clause-within g c =
    begun_within g.B.AsOctets.limit c.in_ok-message.message.state.octets c.in_ok-message.ensures.short.1
    (ap (λ s. length s.octets) c.in_ok-message.ensures.state)

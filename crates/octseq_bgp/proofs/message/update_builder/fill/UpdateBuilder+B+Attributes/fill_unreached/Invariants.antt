-- The prefixes so far were pushed.
use Rattle.std.proofs.Common.{◌≡◌}
use Rattle.octseq_bgp.specs.Composed.{least}
use Rattle.octseq_bgp.specs.Filling.{with_in_last}
use Rattle.octseq_bgp.specs.Writing.{IsUnreached}
use Rattle.octseq_bgp.specs.Written.{longest}
use Rattle.octseq_bgp.specs.declared.attribute.attribute_type.AttributeType.TheVariants as kind
use Rattle.octseq_bgp.proofs.Filling.{ArePut}
use Rattle.octseq_bgp.proofs.message.update_builder.fill.UpdateBuilder+B+Attributes.fill_unreached.Given as goal

abbrev pub invariant-loop-prefix : goal.invariant-loop-prefix
invariant-loop-prefix g l = record {
  put : ArePut (λ p. IsUnreached l.fn.self.session l.fn.self.open_list p.0 p.1)
      (with_in_last kind.MpUnreachNlri l.fn.self.update) l.fn.prefixes
      (least (longest l.fn.self.session) g.B.AsOctets.limit)
      l.fn.self l.self l.prefix-index;
  count : l.unreached ≡ l.prefix-index;
  borrows : g.B.AsOctets.borrows l.self.octets ≡ g.B.AsOctets.borrows l.fn.self.octets;
}

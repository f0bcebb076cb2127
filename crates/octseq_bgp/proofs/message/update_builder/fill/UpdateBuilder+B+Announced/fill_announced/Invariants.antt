-- The prefixes so far were pushed.
use Rattle.std.proofs.Common.{◌≡◌}
use Rattle.octseq_bgp.specs.Composed.{least}
use Rattle.octseq_bgp.specs.Filling.{with_announced}
use Rattle.octseq_bgp.specs.Written.{IsPrefixOf, longest}
use Rattle.octseq_bgp.specs.declared.family.AfiSafiType.TheVariants as family
use Rattle.octseq_bgp.proofs.Filling.{ArePut}
use Rattle.octseq_bgp.proofs.message.update_builder.fill.UpdateBuilder+B+Announced.fill_announced.Given as goal

abbrev pub invariant-loop-prefix : goal.invariant-loop-prefix
invariant-loop-prefix g l = record {
  put : ArePut (λ p. IsPrefixOf l.fn.self.session family.Ipv4Unicast p.0 p.1)
      (with_announced l.fn.self.update) l.fn.prefixes
      (least (longest l.fn.self.session) g.B.AsOctets.limit) l.fn.self l.self l.prefix-index;
  count : l.announced ≡ l.prefix-index;
  borrows : g.B.AsOctets.borrows l.self.octets ≡ g.B.AsOctets.borrows l.fn.self.octets;
}

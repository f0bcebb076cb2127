-- The octets from here on decide.
use Rattle.std.proofs.Common.{◌≡◌, drop}
use Rattle.octseq_dns_name.specs.Order.{label_cmp}
use Rattle.octseq_dns_name.proofs.name.compare.lowercase_cmp.Given as goal

abbrev pub invariant-octets : goal.invariant-octets
invariant-octets l = label_cmp (drop l.at l.fn.one) (drop l.at l.fn.other) ≡ label_cmp l.fn.one l.fn.other

use Rattle.std.proofs.Common.{◌≡◌, ◌++◌, length}
use Rattle.octseq_dns_text.specs.IdsText.{listed_id}
use Rattle.octseq_dns_text.proofs.params.ids.split_id.Given as goal

abbrev pub invariant-octets : goal.invariant-octets
invariant-octets l = l.fn.list ≡ listed_id l.id.items ++ l.ahead

abbrev pub decreases-octets : goal.decreases-octets
decreases-octets l = length l.ahead

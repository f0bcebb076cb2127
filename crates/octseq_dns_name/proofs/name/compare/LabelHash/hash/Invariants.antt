-- The length and the octets so far were written.
use Rattle.std.proofs.Common.{◌≡◌, fold, take, flat_map, ◌++◌, length}
use Rattle.std.specs.Hash as fed
use Rattle.octseq_dns_name.specs.Order.{lower_label}
use Rattle.octseq_dns_name.specs.Read.{label_octets}
use Rattle.octseq_dns_name.proofs.name.compare.LabelHash.hash.Given as goal

abbrev pub invariant-loop-octet : goal.invariant-loop-octet
invariant-loop-octet g l = l.state ≡ fold g.H.Hasher.write l.fn.state
    (fed.usize (length (label_octets l.fn.self)) ++ flat_map fed.u8 (lower_label (take l.octet-index l.octet-items)))

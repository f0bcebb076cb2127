-- The labels so far were written.
use Rattle.std.proofs.Common.{◌≡◌, ℕ, List, ◌++◌, fold, flat_map}
use Rattle.octseq_dns_name.specs.Order.{label_writes}
use Rattle.octseq_dns_name.specs.Read.{labels_of, labels_left}
use Rattle.octseq_dns_name.proofs.name.compare.ParsedNameHash.hash.Given as goal

abbrev pub invariant-loop-label : goal.invariant-loop-label
invariant-loop-label g l = record {
  done : List (List ℕ);
  labels_are : labels_of l.fn.self ≡ done ++ labels_left l.label-iterator;
  written : l.state ≡ fold g.H.Hasher.write l.fn.state (flat_map label_writes done);
}

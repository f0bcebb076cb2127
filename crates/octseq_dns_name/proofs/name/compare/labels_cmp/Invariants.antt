-- What was found compares the labels so far; as many are ahead on both sides.
use Rattle.std.proofs.Common.{◌≡◌, ℕ, List, ◌++◌, length}
use Rattle.octseq_dns_name.specs.Order.{name_cmp}
use Rattle.octseq_dns_name.specs.Read.{labels_left}
use Rattle.octseq_dns_name.proofs.name.compare.labels_cmp.Given as goal

abbrev pub invariant-loop-label : goal.invariant-loop-label
invariant-loop-label g l = record {
  done : List (List ℕ);
  others_done : List (List ℕ);
  labels_are : labels_left l.fn.labels ≡ done ++ labels_left l.label-iterator;
  others_are : labels_left l.fn.others ≡ others_done ++ labels_left l.ahead;
  as_many : length (labels_left l.label-iterator) ≡ length (labels_left l.ahead);
  found : l.found ≡ name_cmp done others_done;
}

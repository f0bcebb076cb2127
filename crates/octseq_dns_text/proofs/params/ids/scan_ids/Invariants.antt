-- What is said is the ids so far, and then the list that is left.
use Rattle.std.proofs.Common.{◌≡◌, ◌^◌, ◌<◌, ◌≤◌, ℕ, List, length}
use Rattle.std.specs.List.{All, flat_map}
use Rattle.octseq.specs.Part.{part_of}
use Rattle.octseq_dns_text.proofs.IdsTexts.{ReadsIds}
use Rattle.octseq_dns_text.proofs.params.ids.scan_ids.Given as goal

abbrev pub invariant-ids : goal.invariant-ids
invariant-ids l = record {
  done : List (List ℕ);
  reads : ReadsIds done l.fn.said l.list;
  value : l.value.items ≡ flat_map (part_of 1) done;
  each : All (λ (id : List ℕ). (1 ≤ length id) × (length id < 2 ^ 8)) done;
}

abbrev pub decreases-ids : goal.decreases-ids
decreases-ids l = length l.list

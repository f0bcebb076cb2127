-- The words so far are parameters, followed by what is left of the text.
use Rattle.std.proofs.Common.{◌≡◌, ◌+◌, ℕ, List, length, map}
use Rattle.std.specs.List.Sorted.{IsStrictlyIncreasing}
use Rattle.octseq_dns_scan.specs.Words.{ahead_of, offset_of}
use Rattle.octseq_dns_text.specs.Reading.{AreReadParams, params_in}
use Rattle.octseq_dns_text.specs.Scans.{BeginsWithWords}
use Rattle.octseq_dns_text.proofs.params.read_params.Given as goal

abbrev pub invariant-params : goal.invariant-params
invariant-params l = record {
  front : List (List ℕ);
  begins : BeginsWithWords front (ahead_of l.fn.words) (ahead_of l.ahead);
  place : offset_of l.ahead + length (ahead_of l.ahead) ≡ offset_of l.fn.words + length (ahead_of l.fn.words);
  read : AreReadParams front (params_in l.params);
  ascending : IsStrictlyIncreasing (map (λ param. param.0) (params_in l.params));
}

abbrev pub decreases-params : goal.decreases-params
decreases-params l = length (ahead_of l.ahead)

-- The words so far are types, followed by what is left of the text.
use Rattle.std.proofs.Common.{◌≡◌, ◌+◌, ℕ, List, length}
use Rattle.std.specs.List.{AllZip, IsDistinct}
use Rattle.std.specs.Prelude.{nat_eq}
use Rattle.octseq_dns_data.specs.Mnemonic.{ReadsRtype}
use Rattle.octseq_dns_scan.specs.Words.{ahead_of, offset_of}
use Rattle.octseq_dns_text.specs.Scans.{BeginsWithWords}
use Rattle.octseq_dns_text.proofs.types.read_types.Given as goal

abbrev pub invariant-types : goal.invariant-types
invariant-types l = record {
  front : List (List ℕ);
  begins : BeginsWithWords front (ahead_of l.fn.words) (ahead_of l.ahead);
  place : offset_of l.ahead + length (ahead_of l.ahead) ≡ offset_of l.fn.words + length (ahead_of l.fn.words);
  each : AllZip ReadsRtype front l.rtypes.items;
  once : IsDistinct nat_eq l.rtypes.items;
}

abbrev pub decreases-types : goal.decreases-types
decreases-types l = length (ahead_of l.ahead)

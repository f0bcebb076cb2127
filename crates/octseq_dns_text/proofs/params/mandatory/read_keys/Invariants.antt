-- The items so far are names of keys.
use Rattle.std.proofs.Common.{ℕ, List, length}
use Rattle.std.specs.List.{All}
use Rattle.std.specs.List.Sorted.{IsPermutation, IsStrictlyIncreasing}
use Rattle.octseq_dns_text.specs.KeyText.{IsKeyText}
use Rattle.octseq_dns_text.proofs.Items.{ReadsItems}
use Rattle.octseq_dns_text.proofs.MandatoryTexts.{IsListed}
use Rattle.octseq_dns_text.proofs.params.mandatory.read_keys.Given as goal

abbrev pub invariant-keys : goal.invariant-keys
invariant-keys l = record {
  named : List ℕ;
  reads : ReadsItems IsKeyText l.fn.said l.list named;
  moved : IsPermutation named l.set.keys;
  bits : All IsListed l.set.keys;
  ascending : IsStrictlyIncreasing l.set.keys;
}

abbrev pub decreases-keys : goal.decreases-keys
decreases-keys l = length l.list

-- What is split off here is split off the whole text, with the blanks so far.
use Rattle.std.proofs.Common.{length}
use Rattle.octseq_dns_scan.proofs.Blanks.{AfterBlanks}
use Rattle.octseq_dns_scan.proofs.words.after_blanks.Given as goal

abbrev pub invariant-blanks : goal.invariant-blanks
invariant-blanks l = AfterBlanks l.fn.text l.ahead

abbrev pub decreases-blanks : goal.decreases-blanks
decreases-blanks l = length l.ahead

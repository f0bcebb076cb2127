-- The same is left after the parts ahead as after those of the whole text.
use Rattle.std.proofs.Common.{length}
use Rattle.octseq_dns_scan.specs.Word.{IsWordPart, EndsWord}
use Rattle.octseq_dns_scan.proofs.Mades.{LeavesSame}
use Rattle.octseq_dns_scan.proofs.words.after_parts.Given as goal

abbrev pub invariant-parts : goal.invariant-parts
invariant-parts l = LeavesSame IsWordPart EndsWord l.fn.text l.ahead

abbrev pub decreases-parts : goal.decreases-parts
decreases-parts l = length l.ahead

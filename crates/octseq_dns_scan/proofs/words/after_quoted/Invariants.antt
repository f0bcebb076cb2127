-- The same is left after the pieces ahead as after those of the whole text.
use Rattle.std.proofs.Common.{length}
use Rattle.octseq_dns_scan.specs.Word.{IsQuotedPiece, BeginsWithQuote}
use Rattle.octseq_dns_scan.proofs.Mades.{LeavesSame}
use Rattle.octseq_dns_scan.proofs.words.after_quoted.Given as goal

abbrev pub invariant-pieces : goal.invariant-pieces
invariant-pieces l = LeavesSame IsQuotedPiece BeginsWithQuote l.fn.text l.ahead

abbrev pub decreases-pieces : goal.decreases-pieces
decreases-pieces l = length l.ahead

-- What was appended is within the limit, and with the words still to come it is the whole. No borrow changes.
use Rattle.std.proofs.Common.{◌≡◌, ◌++◌, length, map}
use Rattle.octseq.specs.Limit.{ExceedsLimit}
use Rattle.octseq_callers.proofs.Joins.{ToCome}
use Rattle.octseq_callers.specs.Joined.{joined}
use Rattle.octseq_callers.proofs.join.join.Given as goal

abbrev pub invariant-loop-word : goal.invariant-loop-word
invariant-loop-word g l = ToCome (λ word. word.now) l.separator l.others l.word-index (g.B.AsOctets.content l.text)
    (g.B.AsOctets.content l.fn.text ++ joined l.separator (map (λ word. word.now) l.words))
    × (ExceedsLimit g.B.AsOctets.limit (length (g.B.AsOctets.content l.text)) → ⊥)
    × (g.B.AsOctets.borrows l.text ≡ g.B.AsOctets.borrows l.fn.text)

use Rattle.std.proofs.Common.{◌++◌}
use Rattle.octseq_text.proofs.FaultSearching.{searched_more, searched_to_fault, no_fault}
use Rattle.octseq_text.proofs.utf8.pieces.FaultPieces.feed_counted.Goals as goal

pub invariant_of-self : goal.invariant_of-self
invariant_of-self c = record {
  octets = c.self.invariant.octets ++ c.args.piece.now;
  searched = searched_more _ _ c.self.invariant.searched
      (no_fault _ _ c.is_some.ensures c.if-is_some.false) c.args.piece.now _ _ _
      (no_fault _ _ c.is_some.ensures c.if-is_some.false)
      c.in-Ok.ensures.passed;
}

pub invariant_of-self-in-Err : goal.invariant_of-self-in-Err
invariant_of-self-in-Err c = record {
  octets = c.self.invariant.octets ++ c.args.piece.now;
  searched = searched_to_fault _ _ c.self.invariant.searched
      (no_fault _ _ c.is_some.ensures c.if-is_some.false) c.args.piece.now _ _ _
      c.in-Err.ensures.fault;
}

pub returns-in-Ok-clause-searched : goal.returns-in-Ok-clause-searched
returns-in-Ok-clause-searched c =
    rw (← c.self.view_is)
    (λ octets s. searched_more _ octets s (no_fault _ _ c.is_some.ensures c.if-is_some.false) c.args.piece.now _ _ _
    (no_fault _ _ c.is_some.ensures c.if-is_some.false)
    c.in-Ok.ensures.passed)

pub returns-in-Err-clause-searched : goal.returns-in-Err-clause-searched
returns-in-Err-clause-searched c =
    rw (← c.self.view_is)
    (λ octets s. searched_to_fault _ octets s (no_fault _ _ c.is_some.ensures c.if-is_some.false) c.args.piece.now _ _ _
    c.in-Err.ensures.fault)

use Rattle.std.proofs.Common.{sym, subst}
use Rattle.octseq.specs.Parser.{window}
use Rattle.octseq_bgp.specs.Fills.{Counts}
use Rattle.octseq_bgp.specs.Path.{asn_size}
use Rattle.octseq_bgp.specs.Parts.{IsSegment}
use Rattle.octseq_bgp.proofs.attribute.path.count_segments.Goals as goal

pub returns-then-wide-clause-counts : goal.returns-then-wide-clause-counts
returns-then-wide-clause-counts g c =
    subst (λ b. Counts (IsSegment (asn_size b)) (window c.args.parser) c.count_all.result) (sym c.if-wide.true)
    c.count_all.ensures.counts

pub returns-else-wide-clause-counts : goal.returns-else-wide-clause-counts
returns-else-wide-clause-counts g c =
    subst (λ b. Counts (IsSegment (asn_size b)) (window c.args.parser) c.count_all-else-wide.result)
    (sym c.if-wide.false)
    c.count_all-else-wide.ensures.counts

use Rattle.std.proofs.Common.{sym, subst}
use Rattle.octseq.specs.Parser.{window}
use Rattle.octseq_bgp.specs.Fills.{Counts}
use Rattle.octseq_bgp.specs.Parts.{IsPathPrefix}
use Rattle.octseq_bgp.specs.Prefix.{most_bits}
use Rattle.octseq_bgp.proofs.prefix.count_with_paths.Goals as goal

pub returns-in-Ipv4-clause-counts : goal.returns-in-Ipv4-clause-counts
returns-in-Ipv4-clause-counts g c =
    subst (λ a. Counts (IsPathPrefix (most_bits a)) (window c.args.parser) c.count_all.result) (sym c.in-Ipv4.is)
    c.count_all.ensures.counts

pub returns-in-Ipv6-clause-counts : goal.returns-in-Ipv6-clause-counts
returns-in-Ipv6-clause-counts g c =
    subst (λ a. Counts (IsPathPrefix (most_bits a)) (window c.args.parser) c.count_all-in-Ipv6.result)
    (sym c.in-Ipv6.is)
    c.count_all-in-Ipv6.ensures.counts

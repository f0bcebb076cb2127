use Rattle.std.proofs.Common.{◌≡◌, ◌+◌, true, false, map, ap, sym, subst, ◌∙◌}
use Rattle.std.specs.Prelude.{IsSome}
use Rattle.octseq_bgp.specs.Path.{segment_number}
use Rattle.octseq_bgp.proofs.Segments.{asns_fit, segment_long}
use Rattle.octseq_bgp.proofs.attribute.compose.path.PathSegmentPart.part_len.Goals as goal

pub returns-in_err-len-clause-fit : goal.returns-in_err-len-clause-fit
returns-in_err-len-clause-fit c = (
  λ some. let none : false ≡ true = subst IsSome c.from_residual.ensures some in absurd (cc),
  λ fits.
      let none : false ≡ true = c.in_err-len.ensures.fit.1 (asns_fit c.args.wide _ fits) in
      absurd (cc),
)

pub returns-clause-some : goal.returns-clause-some
returns-clause-some c =
    let segment = c.args.self.now in
    ap (λ n. 2 + n) c.in_ok-len.ensures.some
    ∙ sym (segment_long c.args.wide (segment_number segment.kind, map (λ asn. asn.0) segment.asns.now))

use Rattle.octseq_bgp.proofs.Segments.{asns_fit}
use Rattle.octseq_bgp.proofs.attribute.compose.path.PathSegmentPart.put_part.Goals as goal

pub put_parts-requires-clause-fit : goal.put_parts-requires-clause-fit
put_parts-requires-clause-fit g c = asns_fit c.args.wide _ c.requires.fit

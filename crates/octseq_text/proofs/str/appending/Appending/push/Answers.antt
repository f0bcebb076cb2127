use Rattle.std.proofs.Common.{ap, ◌∙◌, drop, length}
use Rattle.octseq_utf8.specs.Text.{begins_within}
use Rattle.octseq_utf8.proofs.Bridge.{well_formed_from_utf8}
use Rattle.octseq_text.proofs.Edges.{edge_stays}
use Rattle.octseq_text.proofs.str.appending.Appending.push.Goals as goal

pub invariant_of-self-clause-edge : goal.invariant_of-self-clause-edge
invariant_of-self-clause-edge g c =
    ap (λ octets. begins_within (drop (length g.K.Begun.before) octets)) c.in-Ok.ensures.appended.ok
    ∙ edge_stays _ _ _ c.args.self.now.front c.args.self.now.edge (well_formed_from_utf8 _ c.utf8.s)

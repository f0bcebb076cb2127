use Rattle.std.proofs.Common.{sym, subst}
use Rattle.octseq_utf8.specs.Text.{IsWellFormed, IsBoundary}
use Rattle.octseq_text.proofs.Edges.{boundary_there}
use Rattle.octseq_text.proofs.str.appending.end.Goals as goal

pub truncate-requires : goal.truncate-requires
truncate-requires g c = λ _.
    let appending = c.args.appending in
    let now = g.B.AsOctets.content appending.text.now in
    let well = subst IsWellFormed c.as_slice-lent.ensures.content c.as_slice-lent.ensures.well_formed in
    subst (IsBoundary now) (sym c.requires) (boundary_there g.K.Begun.before now well appending.front appending.edge)

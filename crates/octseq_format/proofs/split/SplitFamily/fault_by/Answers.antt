use Rattle.std.proofs.Common.{sym, subst}
use Rattle.octseq.specs.Parser.{window}
use Rattle.octseq_format.specs.Laws.{NoneAt}
use Rattle.octseq_format.specs.Stop.{none_second}
use Rattle.octseq_format.proofs.split.SplitFamily.fault_by.Goals as goal

pub fault_by-requires-in-Ok : goal.fault_by-requires-in-Ok
fault_by-requires-in-Ok g c =
    let f = g.F.Family in
    let h = g.G.Family in
    let key = c.args.key in
    let here = window c.args.parser.now in
    let there = window c.parse_by.new.parser in
    let one = f.found c.in-Ok._one in
    subst (λ k. NoneAt (h.is_at k) there) (sym c.cut-first.ensures.second)
    (none_second (f.is_at (g.C.Cut.first key)) (h.is_at (g.C.Cut.second key)) here there one
    (subst (λ k. f.is_at k here one there) c.cut-first.ensures.first c.in-Ok.ensures.value) c.requires)

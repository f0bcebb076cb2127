use Rattle.std.proofs.Common.{sym, subst}
use Rattle.octseq.specs.Parser.{window}
use Rattle.octseq_format.specs.Laws.{NoneAt}
use Rattle.octseq_format.specs.Stop.{none_keyed}
use Rattle.octseq_format.proofs.keyed.KeyedFormat.fault.Goals as goal

pub fault_by-requires : goal.fault_by-requires
fault_by-requires g c =
    let h = g.H.Format in
    let f = g.F.Family in
    let v = window c.parse.new.parser in
    subst (λ key. NoneAt (f.is_at key) v) (sym c.key_of.ensures)
    (none_keyed h.key h.says h.is_at f.is_at (window c.args.parser.now) v (h.found c.in-Ok.head)
    c.in-Ok.ensures.value c.requires)

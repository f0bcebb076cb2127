use Rattle.std.proofs.Common.{refl, Some}
use Rattle.octseq.specs.Parser.{window}
use Rattle.octseq_format.specs.Stop.{stops_in_row}
use Rattle.octseq_format.proofs.until.UntilFormat.fault.Goals as goal

pub unreachable-requires : goal.unreachable-requires
unreachable-requires g c =
    let all = c.in-Ok.ensures.all in
    c.requires all.0 (window c.skip_until.new.parser) (all.1, all.2.1, all.4)

pub returns : goal.returns
returns g c =
    let none = c.in-Err.ensures.none refl in
    stops_in_row (window c.args.parser.now) (window c.skip_until.new.parser) c.fault_of_item.result
    (c.in-Err.ensures.passed refl) (λ a v is. none (Some a) v is) c.fault_of_item.ensures

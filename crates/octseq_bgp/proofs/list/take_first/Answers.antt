use Rattle.std.proofs.Common.{◌-◌, refl, arith, rules}
use Rattle.octseq.specs.Parser.{window}
use Rattle.octseq_format.proofs.RowSteps.{held_none, held_not, held_more, held_then}
use Rattle.octseq_bgp.proofs.list.take_first.Goals as goal

pub returns-then-left-eq0 : goal.returns-then-left-eq0
returns-then-left-eq0 g c =
    let f = g.F.Format in
    record {
      none = λ _ held. held_none f.found_code f.is_at (window c.args.parser) c.args.left held (search rules);
      some = λ some. absurd (cc);
      is = tt;
      more = tt;
      first = tt;
    }

pub unreachable-requires : goal.unreachable-requires
unreachable-requires g c =
    let f = g.F.Format in
    held_not f.is_at (window c.args.parser) c.args.left c.requires (omega arith) (c.in-Err.ensures.malformed refl)

pub returns : goal.returns
returns g c =
    let f = g.F.Format in
    let w = window c.args.parser in
    let v = window c.parse.new.parser in
    let one = f.found c.in-Ok.item in
    let is = c.in-Ok.ensures.value in
    let less = c.args.left - 1 in
    record {
      none = λ none. absurd (cc);
      some = λ _. omega arith;
      is = is;
      more = held_more f.found_code f.is_at f.one w v one c.args.left less c.requires is (omega arith);
      first = λ held more. held_then f.found_code f.is_at f.one w v one c.args.left less held more is (omega arith);
    }

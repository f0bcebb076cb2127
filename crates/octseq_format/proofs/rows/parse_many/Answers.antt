use Rattle.std.proofs.Common.{◌+◌, ◌≤◌, ◌∙◌, ap, sym, subst, length}
use Rattle.octseq.specs.Parser.{window}
use Rattle.octseq_format.specs.Row.{Row, row_turns}
use Rattle.octseq_format.proofs.rows.parse_many.Goals as goal

pub returns-clause-value : goal.returns-clause-value
returns-clause-value g c =
    let f = g.F.Format in
    let w = window c.args.parser.now in
    let v = window c.skip_many.new.parser in
    let all = c.in_ok-skip_many.ensures.all in
    let same = c.at.ensures (all.0, ∣ (v, ((all.1.0, all.1.1), sym c.pos.ensures.position)) ∣₁) in
    (ap length same ∙ all.1.0, subst (λ row. Row f.is_at w row v) (sym same) all.1.1)

pub returns-clause-counted : goal.returns-clause-counted
returns-clause-counted g c =
    let f = g.F.Format in
    let v = window c.skip_many.new.parser in
    let all = c.in_ok-skip_many.ensures.all in
    let same = c.at.ensures (all.0, ∣ (v, ((all.1.0, all.1.1), sym c.pos.ensures.position)) ∣₁) in
    subst (λ row. c.args.turns.now + row_turns f.turns_of row ≤ c.skip_many.new.turns) (sym same) all.2

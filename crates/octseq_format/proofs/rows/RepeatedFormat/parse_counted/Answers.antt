use Rattle.std.proofs.Common.{◌+◌, ◌≤◌, refl, sym, subst}
use Rattle.octseq.specs.Parser.{window}
use Rattle.octseq_format.specs.Laws.{moving_of}
use Rattle.octseq_format.specs.Row.{Row, row_turns}
use Rattle.octseq_format.specs.Walk.{items_left}
use Rattle.octseq_format.proofs.RowSteps.{row_moved, row_of_moved}
use Rattle.octseq_format.proofs.rows.RepeatedFormat.parse_counted.Goals as goal

pub returns-in_err-count-clause-malformed : goal.returns-in_err-count-clause-malformed
returns-in_err-count-clause-malformed g c = λ _ row v is.
    c.in_err-count.ensures.malformed refl row v
    (row_of_moved g.F.Format.is_at (window c.args.parser.now) v row is.0, is.1)

pub returns-clause-value : goal.returns-clause-value
returns-clause-value g c =
    let f = g.F.Format in
    let w = window c.args.parser.now in
    let v = window c.skip_all.new.parser in
    let all = c.in_ok-count.ensures.all in
    let same = c.at.ensures (all.0, ∣ (v, ((all.1.0, all.1.1), sym c.pos.ensures.position)) ∣₁) in
    let row = subst (λ row. Row f.is_at w row v) (sym same) all.1.1 in
    let moving = moving_of g.met.F.Format.onward (g.met.F.Format.moving refl) in
    (row_moved f.is_at moving w v (items_left c.at.result) row, c.in_ok-count.ensures.ends)

pub returns-clause-counted : goal.returns-clause-counted
returns-clause-counted g c =
    let v = window c.skip_all.new.parser in
    let all = c.in_ok-count.ensures.all in
    let same = c.at.ensures (all.0, ∣ (v, ((all.1.0, all.1.1), sym c.pos.ensures.position)) ∣₁) in
    subst (λ row. c.args.turns.now + row_turns g.F.Format.turns_of row ≤ c.skip_all.new.turns) (sym same) all.2

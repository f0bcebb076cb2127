use Rattle.std.proofs.Common.{◌+◌, ◌≤◌, refl, sym, subst}
use Rattle.octseq.specs.Parser.{window}
use Rattle.octseq_format.specs.Row.{row_turns}
use Rattle.octseq_format.specs.Until.{IsUntil}
use Rattle.octseq_format.proofs.until.UntilFormat.parse_counted.Goals as goal

pub returns-in_err-passed-clause-malformed : goal.returns-in_err-passed-clause-malformed
returns-in_err-passed-clause-malformed g c = λ _. c.in_err-passed.ensures.malformed refl

pub returns-clause-value : goal.returns-clause-value
returns-clause-value g c =
    let f = g.F.Family in
    let w = window c.args.parser.now in
    let v = window c.skip_until.new.parser in
    let all = c.in_ok-passed.ensures.all in
    let same = c.at.ensures (all.0, ∣ (all.1, (all.2, all.3)) ∣₁) in
    subst (λ row. IsUntil g.row.END g.N.Number.is_at f.is_at w row v) (sym same) (all.1, all.2.1, all.4)

pub returns-clause-counted : goal.returns-clause-counted
returns-clause-counted g c =
    let all = c.in_ok-passed.ensures.all in
    let same = c.at.ensures (all.0, ∣ (all.1, (all.2, all.3)) ∣₁) in
    subst (λ row. c.args.turns.now + row_turns g.F.Family.turns_of row ≤ c.skip_until.new.turns) (sym same) all.5

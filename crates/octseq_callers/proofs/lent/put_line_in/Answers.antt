use Rattle.std.proofs.Common.{◌≡◌, ◌++◌, [], ◌∷◌, ◌∙◌, ap, sym, subst, drop, Ok, Result}
use Rattle.std.specs.Prelude.{OnOk}
use Rattle.octseq.specs.declared.AppendError.{AppendError}
use Rattle.octseq_callers.proofs.Filled.{filled}
use Rattle.octseq_callers.proofs.lent.put_line_in.Goals as goal

done : {P : Type 0} (result : Result (Unit {0}) AppendError) (value : Unit {0}) → result ≡ Ok value → OnOk result P → P
done {P} result value went then = subst (λ r. OnOk r P) went then

pub returns : goal.returns
returns g c =
    let first = c.append_slice.ensures in
    let second = c.append_slice-2.ensures in
    let text = done _ _ c.infallible.ensures first.appended.ok
    ∙ ap (λ content. content ++ c.args.text.now) c.new-builder.ensures.empty in
    let line = done _ _ c.infallible-2.ensures second.appended.ok ∙ ap (λ content. content ++ 10 ∷ []) text in
    c.out-1.given.1.1 (sym (second.lender ∙ first.lender ∙ c.new-builder.ensures.lender))
    ∙ filled c.args.out.now _ _ c.args.text.now (10 ∷ []) _ _ text
    (first.rest ∙ ap (drop _) c.new-builder.ensures.octets) line second.rest

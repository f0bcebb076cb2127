use Rattle.std.proofs.Common.{◌≡◌, ℕ, ◌+◌, ◌++◌, ◌∙◌, length, ap, rules, arith}
use Rattle.std.proofs.lemmas.List.{length-append, length-take}
use Rattle.octseq_callers.proofs.single_calls.text_front.Goals as goal

pub returns-in-None-clause-cut : goal.returns-in-None-clause-cut
returns-in-None-clause-cut c =
    λ fault is. absurd (c.one_fault.ensures.refutes c.args.octets.now fault is
    (c.in-None.ensures.none.0 (search rules)))

pub returns-in-Some-clause-cut : goal.returns-in-Some-clause-cut
returns-in-Some-clause-cut c = λ fault is.
    let same = c.one_fault.ensures.only c.args.octets.now c.in-Some.fault fault c.in-Some.ensures.fault is in
    let here : c.valid_up_to.result ≡ length is.before = c.valid_up_to.ensures ∙ ap (λ f. f.place) same ∙ is.place in
    let place = is.place in
    let all : length c.args.octets.now ≡ length is.before + length (is.bad ++ is.after) =
    ap length is.whole ∙ length-append is.before (is.bad ++ is.after) in
    omega (arith, length-take {A = ℕ})

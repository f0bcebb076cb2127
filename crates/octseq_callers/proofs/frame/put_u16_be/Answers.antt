use Rattle.std.proofs.Common.{◌≡◌, ◌+◌, ◌-◌, ◌++◌, ℕ, length, take, drop, ap, ◌∙◌, arith}
use Rattle.std.proofs.lemmas.List.{length-append, length-take, length-drop, drop-drop}
use Rattle.octseq.proofs.Written.{length_be, made_be_2}
use Rattle.octseq.specs.Integer.{octets_be}
use Rattle.octseq_callers.proofs.frame.put_u16_be.Goals as goal

pub returns-clause-content : goal.returns-clause-content
returns-clause-content g c =
    let at = c.args.at in
    let octets = octets_be 2 c.args.value in
    let old = g.B.AsOctets.content c.args.octets.now in
    let put = c.copy_from_slice.new.self in
    let same : put ≡ octets = c.copy_from_slice.ensures.after ∙ c.to_be_bytes.ensures ∙ made_be_2 c.args.value in
    let end : at + (at + 2 - at) ≡ at + 2 = omega arith in
    let all = ap (λ shown. take at shown ++ (put ++ drop (at + 2 - at) (drop at shown))) c.as_mut.ensures.value
    ∙ ap (λ more. take at old ++ (put ++ more)) (drop-drop (at + 2 - at) at old ∙ ap (λ n. drop n old) end)
    ∙ ap (λ put. take at old ++ (put ++ drop (at + 2) old)) same in
    let long : length (take at old ++ (octets ++ drop (at + 2) old)) ≡ length old =
    omega (
      arith,
      length-append (take at old) (octets ++ drop (at + 2) old),
      length-append octets (drop (at + 2) old),
      length_be 2 c.args.value,
      length-take {A = ℕ},
      length-drop {A = ℕ},
    ) in
    g.met.B.AsOctetsMut.written c.args.octets.now _ (ap length all ∙ long) ∙ all

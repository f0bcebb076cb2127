use Rattle.std.proofs.Common.{◌≡◌, ℕ, ◌-◌, List, [], ◌∷◌, ◌++◌, length, ap, sym, ◌∙◌, Fits, w8, arith}
use Rattle.std.proofs.Common.{append_assoc, length-append}
use Rattle.octseq.specs.Integer.{octets_be}
use Rattle.octseq.proofs.Written.{length_be, made_be_1, made_be_2}
use Rattle.octseq_bgp.proofs.message.open_builder.count_parameters.Goals as goal

pub returns-then-long-clause-content : goal.returns-then-long-clause-content
returns-then-long-clause-content g c a ps n content front =
    let now = rw c.if-long.true at content in
    let mark : List ℕ = 255 ∷ 255 ∷ [] in
    let old = octets_be 2 n in
    let all = ap length now ∙ length-append a (255 ∷ 255 ∷ (old ++ ps)) in
    let many : c.len-len.result - 32 ≡ length ps =
    omega (arith, all, length-append old ps, length_be 2 n, front, c.len-len.ensures.content) in
    let put = c.to_be_bytes-count.ensures ∙ made_be_2 (c.len-len.result - 32) ∙ ap (octets_be 2) many in
    let wide = ap length put ∙ length_be 2 (length ps) in
    rw c.if-long.true
    (c.write_over.ensures.content (a ++ mark) old ps (now ∙ sym (append_assoc a mark (old ++ ps)))
    (omega (arith, length-append a mark, front)) (omega (arith, wide, length_be 2 n))
    ∙ ap (λ o. (a ++ mark) ++ (o ++ ps)) put ∙ append_assoc a mark (octets_be 2 (length ps) ++ ps))

pub returns-clause-content : goal.returns-clause-content
returns-clause-content g c a ps n content front =
    let now = rw c.if-long.false at content in
    let old = octets_be 1 n in
    let all = ap length now ∙ length-append a (old ++ ps) in
    let many : c.len-len.result - 29 ≡ length ps =
    omega (arith, all, length-append old ps, length_be 1 n, front, c.len-len.ensures.content) in
    let most = rw c.if-long.false at c.requires.few in
    let few : Fits w8 (c.len-len.result - 29) = omega (arith, most, c.len-len.ensures.content) in
    rw c.if-long.false
    (c.write_over-2.ensures.content a old ps now front (length_be 1 n)
    ∙ ap (λ o. a ++ (o ++ ps)) (made_be_1 (c.len-len.result - 29) few ∙ ap (octets_be 1) many))

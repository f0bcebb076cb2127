use Rattle.std.proofs.Common.{◌+◌, ◌++◌, take, drop, ap, sym, ◌∙◌, arith, append_assoc, length-append}
use Rattle.std.proofs.lemmas.List.{take-append-drop, length-take-le, length-drop, take_rest}
use Rattle.octseq_bgp.proofs.compose.replace_over.Goals as goal

pub write_over-requires : goal.write_over-requires
write_over-requires g c =
    let first = length-take-le c.args.old c.args.slice.now c.requires.old in
    omega (arith, first, c.insert_over.ensures.len)

pub returns-clause-content : goal.returns-clause-content
returns-clause-content g c a o b x is at old over =
    let s = c.args.slice.now in
    let k = c.args.old in
    let first = length-take-le k s c.requires.old in
    let inserted = c.insert_over.ensures.content (a ++ o) b x (is ∙ sym (append_assoc a o (b ++ x)))
    (omega (arith, length-append a o, at, old)) (rw (take_rest, length-drop) (omega (arith, old, over))) in
    c.write_over.ensures.content a o (drop k s ++ b)
    (inserted ∙ ap (λ rest. (a ++ o) ++ (rest ++ b)) (take_rest s k) ∙ append_assoc a o (drop k s ++ b)) at
    (omega (arith, first, old))
    ∙ ap (λ o. a ++ o) (sym (append_assoc (take k s) (drop k s) b) ∙ ap (λ o. o ++ b) (take-append-drop k s))

use Rattle.std.proofs.Common.{◌≡◌, ℕ, ◌+◌, sym, ap, ◌∙◌, arith}
use Rattle.octseq.specs.Integer.{be}
use Rattle.octseq.specs.Parser.{window}
use Rattle.octseq.specs.Window.{next, past}
use Rattle.octseq_bgp.proofs.Chunks.{cut}
use Rattle.octseq_bgp.proofs.capability.family_tuple.FamilyTupleItem.take.Goals as goal

three : {a b c x y z : ℕ} → a ≡ x → b ≡ y → c ≡ z → Path (ℕ × (ℕ × ℕ)) (a, (b, c)) (x, (y, z))
three {b = b} {c = c} {x = x} {y = y} one two last =
    ap (λ a. (a, (b, c))) one ∙ ap (λ b. (x, (b, c))) two ∙ ap (λ c. (x, (y, c))) last

pub returns-clause-value : goal.returns-clause-value
returns-clause-value g c =
    let w = window c.args.parser.now in
    let o = w.octets in
    let p = w.position in
    let u = c.in_ok-afi.ensures.taken.ok in
    let v = c.in_ok-safi.ensures.taken.ok ∙ ap (past 1) (u) in
    three (c.in_ok-afi.ensures.value ∙ ap be (sym (cut o p p 0 2 4 (omega arith) (omega arith))))
    (c.in_ok-safi.ensures.value ∙ ap (λ x. be (next 1 x)) u
    ∙ ap be (sym (cut o p (p + 2) 2 1 4 (omega arith) (omega arith))))
    (c.in_ok-flags.ensures.value ∙ ap (λ x. be (next 1 x)) v
    ∙ ap be (sym (cut o p (p + 2 + 1) 3 1 4 (omega arith) (omega arith))))

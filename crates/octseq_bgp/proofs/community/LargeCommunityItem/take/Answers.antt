use Rattle.std.proofs.Common.{◌≡◌, ℕ, ◌+◌, sym, ap, ◌∙◌, arith}
use Rattle.octseq.specs.Integer.{be}
use Rattle.octseq.specs.Parser.{window}
use Rattle.octseq.specs.Window.{next, past}
use Rattle.octseq_bgp.proofs.Chunks.{cut}
use Rattle.octseq_bgp.proofs.community.LargeCommunityItem.take.Goals as goal

three : {a b c x y z : ℕ} → a ≡ x → b ≡ y → c ≡ z → Path (ℕ × (ℕ × ℕ)) (a, (b, c)) (x, (y, z))
three {b = b} {c = c} {x = x} {y = y} one two last =
    ap (λ a. (a, (b, c))) one ∙ ap (λ b. (x, (b, c))) two ∙ ap (λ c. (x, (y, c))) last

pub returns-clause-value : goal.returns-clause-value
returns-clause-value g c =
    let w = window c.args.parser.now in
    let o = w.octets in
    let p = w.position in
    let u = c.in_ok-global.ensures.taken.ok in
    let v = c.in_ok-data1.ensures.taken.ok ∙ ap (past 4) u in
    three (c.in_ok-global.ensures.value ∙ ap be (sym (cut o p p 0 4 12 (omega arith) (omega arith))))
    (c.in_ok-data1.ensures.value ∙ ap (λ x. be (next 4 x)) u
    ∙ ap be (sym (cut o p (p + 4) 4 4 12 (omega arith) (omega arith))))
    (c.in_ok-data2.ensures.value ∙ ap (λ x. be (next 4 x)) v
    ∙ ap be (sym (cut o p (p + 4 + 4) 8 4 12 (omega arith) (omega arith))))

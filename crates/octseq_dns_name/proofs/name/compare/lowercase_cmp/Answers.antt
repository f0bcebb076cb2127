use Rattle.std.proofs.Common.{◌≡◌, min, length, sym, ◌∙◌, arith}
use Rattle.octseq_dns_name.proofs.Comparisons.{label_cmp_end}
use Rattle.octseq_dns_name.proofs.name.compare.lowercase_cmp.Goals as goal

pub returns : goal.returns
returns c =
    let one = c.args.one.now in
    let other = c.args.other.now in
    let end = c.min-at-end.ensures in
    let over = c.octets-test.false in
    let within = c.octets.auto.at-end in
    let least : c.octets.at ≡ min (length one) (length other) = omega (arith, end, over, within) in
    c.cmp.ensures ∙ sym (label_cmp_end one other c.octets.at least) ∙ c.octets.invariant

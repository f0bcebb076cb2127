use Rattle.std.proofs.Common.{◌≡◌, ◌+◌, ◌-◌, ap, ◌∙◌, arith, slice_index_or}
use Rattle.octseq_dns_compress.specs.Key.{label_at}
use Rattle.octseq_dns_compress.proofs.search.label_at.Goals as goal

pub returns : goal.returns
unfolding label_at
returns c =
    let octets = c.args.octets.now in
    let long : c.from-at.result + 1 + c.from-len.result - c.from-at.result ≡ 1 + slice_index_or octets c.args.at 0 =
    omega (arith, c.from-len.ensures ∙ ap (λ n. slice_index_or octets n 0) c.from-at.ensures) in
    rw (long, c.from-at.ensures)

use Rattle.std.proofs.Common.{◌≡◌, ◌+◌, ◌-◌, ap, ◌∙◌, take, drop, arith, slice_index_or}
use Rattle.octseq_dns_compress.specs.Key.{label_at}
use Rattle.octseq_dns_compress.proofs.PlainLabels.{label_read}
use Rattle.octseq_dns_compress.proofs.plain.LabelOffsets.label.Goals as goal

pub returns : goal.returns
unfolding label_at
returns c =
    let octets = c.args.self.now.octets.now in
    let starts = c.args.self.now.starts.now in
    let start = slice_index_or starts c.args.index 0 in
    let long : start + 1 + c.from-len.result - start ≡ 1 + slice_index_or octets start 0 =
    (omega (arith, c.from-len.ensures)) in
    ap (λ n. take n (drop start octets)) long
    ∙ label_read octets starts c.args.index c.args.self.now.whole c.requires

use Rattle.std.proofs.Common.{◌≡◌, ◌+◌, ◌-◌, ◌*◌, ap, ◌∙◌, sym, length, arith, slice_index_or, lt-ltb, le-ltb}
use Rattle.std.proofs.Common.{if◌then◌else◌}
use Rattle.octseq_dns_compress.specs.Key.{digest_of}
use Rattle.octseq_dns_compress.proofs.search.digest.Goals as goal

pub returns-then-len-lt3 : goal.returns-then-len-lt3
unfolding digest_of
returns-then-len-lt3 c =
    let label = c.args.label.now in
    let last = length label in
    sym (ap (λ few. if few then 0
    else 240 * slice_index_or label (last - 3) 0 + 16 * slice_index_or label (last - 2) 0
    + slice_index_or label (last - 1) 0) (lt-ltb last 3 (omega (arith, c.if-len-lt3.true))))

pub returns : goal.returns
unfolding digest_of
returns c =
    let label = c.args.label.now in
    let last = length label in
    let same : 240 * c.from-third.result + 16 * c.from-second.result + c.from.result
    ≡ 240 * slice_index_or label (last - 3) 0 + 16 * slice_index_or label (last - 2) 0
    + slice_index_or label (last - 1) 0 = omega (arith, c.from-third.ensures, c.from-second.ensures, c.from.ensures) in
    same ∙ sym (ap (λ few. if few then 0
    else 240 * slice_index_or label (last - 3) 0 + 16 * slice_index_or label (last - 2) 0
    + slice_index_or label (last - 1) 0) (le-ltb last 3 (omega (arith, c.if-len-lt3.false))))

use Rattle.std.proofs.Common.{◌≡◌, ◌+◌, ◌-◌, ◌∙◌, length, take, drop, replicate, vec_len, ap, arith}
use Rattle.octseq_stream.proofs.Filled.{appended, take_front, length_part}
use Rattle.octseq_stream.proofs.read_exact.append_step.Goals as goal

pub returns-clause-read : goal.returns-clause-read
returns-clause-read g c =
    let ys = c.fill_after.new.octets in
    let old = c.args.octets.now.items in
    let before = c.len-before.result in
    let count = c.in_ok-count.count in
    let read = c.in_ok-count.ensures in
    let fits = read.fits in
    let grown = c.in_ok-resize.ensures.len in
    let value = c.as_mut_slice.ensures.len in
    let kept = c.fill_after.auto.octets in
    let counted = c.len-before.ensures in
    let long = c.args.octets.now.ok in
    let whole : c.resize.new.self.len ≡ length ys = omega (arith, value, kept) in
    let all : before ≡ length old = omega (arith, counted, long) in (
      take count (drop before ys),
      length_part ys before count fits,
      omega (arith, fits, grown, value, kept),
      c.truncate.ensures.items ∙ ap (take (before + count)) (take_front ys _ c.resize.new.self.len whole)
          ∙ appended old (replicate (before + c.args.step - vec_len c.args.octets.now) 0) c.as_mut_slice.result.now
          ys before count
          c.args.step all (c.as_mut_slice.ensures.value ∙ c.in_ok-resize.ensures.items) read.front,
      read.ok,
    )

use Rattle.std.proofs.Common.{◌<◌, length, arith}
use Rattle.octseq_stream.proofs.Filled.{consumed_more}
use Rattle.octseq_stream.proofs.read_exact.fill.Goals as goal

pub loop-preserved : goal.loop-preserved
loop-preserved g c =
    let read = c.in_ok-count.ensures in
    let within : c.loop.filled < length c.loop.octets = c.loop.invariant.0 in
    let fits = read.fits in
    let other = c.if-filled-octets.false in (
      omega (arith, fits, other),
      consumed_more (g.R.Read.remaining c.args.reader.now) (g.R.Read.remaining c.loop.reader)
          (g.R.Read.remaining c.read_at.new.reader) c.loop.octets c.read_at.new.octets c.loop.filled
          c.in_ok-count.count read.front c.loop.invariant.1 read.ok,
    )

use Rattle.std.proofs.Common.{◌∷◌, ◌++◌, []}
use Rattle.std.proofs.KnownBytes.{Consumes-trans}
use Rattle.octseq_cli.proofs.TextSteps.{feeds_more}
use Rattle.octseq_cli.proofs.texts.read_first.Goals as goal

pub loop-preserved : goal.loop-preserved
loop-preserved g c =
    let feeds = c.loop.invariant in
    let octet = c.in-Some.octet in (
      feeds.0 ++ octet ∷ [],
      feeds_more feeds.0 octet feeds.1 c.if-octet-ne10.false,
      Consumes-trans (g.R.Read.remaining c.args.reader.now) (g.R.Read.remaining c.loop.reader)
          (g.R.Read.remaining c.read_octet.new.reader) feeds.0 (octet ∷ []) feeds.2
          (rw c.in-Some.is at c.in_ok-octet.ensures.some),
    )

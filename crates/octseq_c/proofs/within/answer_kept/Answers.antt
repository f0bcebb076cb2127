use Rattle.octseq_dns.specs.Parsed.{header_of, questions_of}
use Rattle.octseq_c.proofs.AnswersWithin.{made_fits, made_is}
use Rattle.octseq_c.proofs.within.answer_kept.Goals as goal

pub returns : goal.returns
returns c =
    let m = c.args.message.now in
    let made = c.in-Ok.ensures.made in (
      made.0,
      made_is (header_of m) c.args.flags (questions_of m) c.args.source.now c.args.rows.now c.args.limit c.args.kept
          c.flags_for-flags.result c.flags_for-flags.ensures made.0 made.1,
      made_fits (header_of m) c.args.flags (questions_of m) c.args.source.now c.args.rows.now c.args.limit c.args.kept
          c.flags_for-flags.result c.flags_for-flags.ensures made.0 made.1 c.requires.fits,
      made.3,
    )

use Rattle.std.proofs.Common.{[], Err}
use Rattle.octseq_cli.proofs.process.start.Goals as goal

-- memory refused for the arguments is that of a run for any word
pub returns-in-Err : goal.returns-in-Err
returns-in-Err g c = ([], Err c.exit_with.ensures.0, c.exit_with.ensures.1, tt)

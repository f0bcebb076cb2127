use Rattle.std.proofs.Common.{refl}
use Rattle.octseq_cli.proofs.streams.write_whole.Goals as goal

pub returns-in-Ok : goal.returns-in-Ok
returns-in-Ok g c = (c.args.octets.now, refl, c.in-Ok.ensures.ok)

pub returns-in-Err : goal.returns-in-Err
returns-in-Err g c = c.write_all.ensures.front

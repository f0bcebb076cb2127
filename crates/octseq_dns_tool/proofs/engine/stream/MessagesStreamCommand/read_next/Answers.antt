use Rattle.std.proofs.Common.{List, ℕ, refl}
use Rattle.std.specs.Io.KnownBytes.{Consumes, IsAtEnd}
use Rattle.octseq_dns_tool.specs.Taken.{IsStreamRest}
use Rattle.octseq_cli.proofs.Ends.{ends_so}
use Rattle.octseq_cli.specs.declared.frames.Ending.TheVariants.{Cut}
use Rattle.octseq_dns_tool.proofs.engine.stream.MessagesStreamCommand.read_next.Goals as goal

pub returns-in-Err-Short-clause-end : goal.returns-in-Err-Short-clause-end
returns-in-Err-Short-clause-end g c =
    let said = rw c.in-Err-Short.field-0-is at c.in-Err-Short.ensures in
    ends_so (λ ending. (rest : List ℕ) × IsStreamRest ending rest
    × Consumes (g.R.Read.remaining c.args.reader.now) (g.R.Read.remaining c.read_frame.new.reader) rest
    × IsAtEnd (g.R.Read.remaining c.read_frame.new.reader)) Cut (said.short refl)

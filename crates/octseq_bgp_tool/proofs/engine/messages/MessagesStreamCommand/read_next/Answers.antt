use Rattle.std.proofs.Common.{◌++◌, List, ℕ, refl}
use Rattle.std.proofs.KnownBytes.{Consumes-trans}
use Rattle.std.specs.Io.KnownBytes.{Consumes, IsAtEnd}
use Rattle.octseq_bgp_tool.specs.Streams.{IsMessagesRest}
use Rattle.octseq_cli.proofs.Ends.{ends_so}
use Rattle.octseq_cli.specs.declared.frames.Ending.TheVariants.{Cut, Misframed}
use Rattle.octseq_bgp_tool.proofs.engine.messages.MessagesStreamCommand.read_next.Goals as goal
use Rattle.octseq.proofs.Errors.{on_err}

pub returns-in-Err-Short-clause-end : goal.returns-in-Err-Short-clause-end
returns-in-Err-Short-clause-end g c =
    let said = rw c.in-Err-Short.field-0-is at c.in-Err-Short.ensures in
    ends_so (λ ending. (rest : List ℕ) × IsMessagesRest c.args.self.session ending rest
    × Consumes (g.R.Read.remaining c.args.reader.now) (g.R.Read.remaining c.read_message.new.reader) rest
    × IsAtEnd (g.R.Read.remaining c.read_message.new.reader)) Cut (said.short refl)

pub returns-in_err-drop_rest-in-Err-Malformed-clause-err : goal.returns-in_err-drop_rest-in-Err-Malformed-clause-err
returns-in_err-drop_rest-in-Err-Malformed-clause-err g c =
    let said = rw c.in-Err-Malformed.field-0-is at c.in-Err-Malformed.ensures in
    let read = said.malformed refl in
    let more = c.in_err-drop_rest-in-Err-Malformed.ensures.some in
    on_err c.from_residual.result (
      read.0 ++ more.0,
      Consumes-trans (g.R.Read.remaining c.args.reader.now) (g.R.Read.remaining c.read_message.new.reader)
          (g.R.Read.remaining c.drop_rest.new.reader) read.0 more.0 read.2 more.1,
    )

pub returns-in_ok-drop_rest-in-Err-Malformed-clause-end : goal.returns-in_ok-drop_rest-in-Err-Malformed-clause-end
returns-in_ok-drop_rest-in-Err-Malformed-clause-end g c =
    let said = rw c.in-Err-Malformed.field-0-is at c.in-Err-Malformed.ensures in
    let read = said.malformed refl in
    let more = c.in_ok-drop_rest-in-Err-Malformed.ensures.all in
    ends_so (λ ending. (rest : List ℕ) × IsMessagesRest c.args.self.session ending rest
    × Consumes (g.R.Read.remaining c.args.reader.now) (g.R.Read.remaining c.drop_rest.new.reader) rest
    × IsAtEnd (g.R.Read.remaining c.drop_rest.new.reader)) Misframed (
      read.0 ++ more.0,
      c.misframed_octets_stay_so.ensures c.args.self.session read.0 more.0 read.1,
      Consumes-trans (g.R.Read.remaining c.args.reader.now) (g.R.Read.remaining c.read_message.new.reader)
          (g.R.Read.remaining c.drop_rest.new.reader) read.0 more.0 read.2 more.1,
      more.2,
    )

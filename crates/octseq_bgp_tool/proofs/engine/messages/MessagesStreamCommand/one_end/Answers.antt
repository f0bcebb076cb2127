use Rattle.octseq_bgp.specs.Stream.{IsFramed}
use Rattle.octseq_bgp_tool.proofs.Ends.{none_at_messages_end}
use Rattle.octseq_bgp_tool.proofs.OneAnswer.{code_of}
use Rattle.octseq_bgp_tool.proofs.engine.messages.MessagesStreamCommand.one_end.Goals as goal

pub returns-clause-apart : goal.returns-clause-apart
returns-clause-apart c = code_of (IsFramed c.args.self.session)
    (c.framed_messages_are_apart.ensures c.args.self.session)

pub returns-clause-rest : goal.returns-clause-rest
returns-clause-rest c = none_at_messages_end c.misframed_begins_none.ensures c.args.self.output c.args.self.session

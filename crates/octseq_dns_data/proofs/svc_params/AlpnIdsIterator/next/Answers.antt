use Rattle.std.proofs.Common.{refl}
use Rattle.octseq.specs.Parser.{window}
use Rattle.octseq.specs.Window.{rest}
use Rattle.octseq_dns_data.specs.Pieces.{pieces, split_part}
use Rattle.octseq_dns_data.proofs.Params.{id_split}
use Rattle.octseq_dns_data.proofs.Pieces.{more_pieces, no_pieces}
use Rattle.octseq_format.proofs.RowSteps.{fewer}
use Rattle.octseq_dns_data.proofs.svc_params.AlpnIdsIterator.next.Goals as goal

pub returns-in-Ok-clause-steps : goal.returns-in-Ok-clause-steps
returns-in-Ok-clause-steps g c =
    more_pieces (split_part 1) id_split.moving (rest (window c.args.self.now.parser))
    (rest (window c.in-Ok.id)) (rest (window c.take_id.new.parser)) c.in-Ok.ensures.id

pub returns-in-Ok-clause-goes : goal.returns-in-Ok-clause-goes
returns-in-Ok-clause-goes g c =
    let split = (split_part 1) in
    let less = fewer (rest (window c.in-Ok.id)) (pieces split (rest (window c.args.self.now.parser)))
    (pieces split (rest (window c.take_id.new.parser))) (returns-in-Ok-clause-steps g c) in
    record { on = λ finite. (tt, finite, less); keeps = tt; rests = λ _. tt }

pub returns-in-Err-clause-steps : goal.returns-in-Err-clause-steps
returns-in-Err-clause-steps g c =
    let none = no_pieces (split_part 1) (rest (window c.args.self.now.parser)) (c.in-Err.ensures.none refl) in
    (none, none)

use Rattle.std.proofs.Common.{refl, subst}
use Rattle.octseq.specs.Parser.{window}
use Rattle.octseq.specs.Window.{rest}
use Rattle.octseq_dns_data.specs.Pieces.{pieces}
use Rattle.octseq_dns_data.specs.SvcParams.{split_param}
use Rattle.octseq_dns_data.proofs.Params.{first_param, param_split}
use Rattle.octseq_dns_data.proofs.Pieces.{more_pieces, no_pieces}
use Rattle.octseq.proofs.WrittenBack.{AreOctets}
use Rattle.octseq_format.proofs.RowSteps.{fewer}
use Rattle.octseq_dns_data.proofs.svc_params.SvcParamIterIterator.next.Goals as goal

pub invariant_of-self : goal.invariant_of-self
invariant_of-self g c =
    let each = subst AreOctets c.peek_all.ensures.content c.are_octets.ensures in
    record {
      params = (first_param (rest (window c.args.self.now.parser)) (c.in-Ok.key, rest (window c.in-Ok.octets))
          (rest (window c.take_param.new.parser)) each c.in-Ok.ensures.param c.args.self.now.params).1;
    }

pub invariant_of-result : goal.invariant_of-result
invariant_of-result g c =
    let each = subst AreOctets c.peek_all.ensures.content c.are_octets.ensures in
    let first = first_param (rest (window c.args.self.now.parser)) (c.in-Ok.key, rest (window c.in-Ok.octets))
    (rest (window c.take_param.new.parser)) each c.in-Ok.ensures.param c.args.self.now.params in
    record { value = first.0.value }

pub returns-in-Ok-clause-steps : goal.returns-in-Ok-clause-steps
returns-in-Ok-clause-steps g c =
    more_pieces split_param param_split.moving (rest (window c.args.self.now.parser))
    (c.in-Ok.key, rest (window c.in-Ok.octets)) (rest (window c.take_param.new.parser)) c.in-Ok.ensures.param

pub returns-in-Ok-clause-goes : goal.returns-in-Ok-clause-goes
returns-in-Ok-clause-goes g c =
    let ahead = pieces split_param (rest (window c.args.self.now.parser)) in
    let more = pieces split_param (rest (window c.take_param.new.parser)) in
    let less = fewer (c.in-Ok.key, rest (window c.in-Ok.octets)) ahead more (returns-in-Ok-clause-steps g c) in
    record { on = λ finite. (tt, finite, less); keeps = tt; rests = λ _. tt }

pub returns-in-Err-clause-steps : goal.returns-in-Err-clause-steps
returns-in-Err-clause-steps g c =
    let none = no_pieces split_param (rest (window c.args.self.now.parser)) (c.in-Err.ensures.none refl) in
    (none, none)

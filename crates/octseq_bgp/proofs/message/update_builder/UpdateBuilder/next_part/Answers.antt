use Rattle.std.proofs.Common.{ap, ◌∙◌}
use Rattle.octseq_bgp.specs.Written.{WrittenUpdate}
use Rattle.octseq_bgp.specs.Writing.{Writing}
use Rattle.octseq_bgp.proofs.Updates.{held_as, held_same}
use Rattle.octseq_bgp.proofs.message.update_builder.UpdateBuilder.next_part.Goals as goal

pub invariant_of-result : goal.invariant_of-result
invariant_of-result g c = (held_as c.self.inside.held (rw (← c.self.view_is) at c.requires) (λ opened. opened), tt)

pub returns : goal.returns
returns g c =
    let in' = c.self.inside in
    let with : WrittenUpdate → Writing g.row.B.Denot = λ u. record {
      octets = in'.octets.octets;
      session = in'.session;
      update = u;
      open_list = in'.open_list;
    } in
    ap with (held_same c.result-2-1.given.0 in'.held) ∙ c.self.view_is

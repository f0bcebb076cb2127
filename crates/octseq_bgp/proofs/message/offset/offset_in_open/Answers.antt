use Rattle.std.proofs.Common.{◌≡◌, true, is_ok, inl, rules, ap, subst, arith}
use Rattle.octseq.specs.Window.{left}
use Rattle.octseq_bgp.specs.Stop.{ParametersStop}
use Rattle.octseq_bgp.proofs.Stops.{on_ok}
use Rattle.octseq_bgp.proofs.message.offset.offset_in_open.Goals as goal

pub returns : goal.returns
returns g c =
    let went : is_ok c.advance.result ≡ true = search rules in
    let moved = on_ok c.advance.result went c.advance.ensures.ok in
    let here = ap left moved in
    let some = c.if-remaining-eq0.false in
    let all = c.remaining.ensures.left in
    inl (
      omega (arith, here, some, all),
      subst (λ w. ParametersStop w c.offset_in_parameters.result) moved c.offset_in_parameters.ensures,
    )

use Rattle.std.proofs.Common.{◌≡◌, true, is_ok, inl, rules, subst}
use Rattle.octseq_bgp.specs.Parts.{IsTlv}
use Rattle.octseq_bgp.specs.Stop.{CountedStop}
use Rattle.octseq_bgp.proofs.Stops.{on_ok}
use Rattle.octseq_bgp.proofs.message.offset.offset_in_parameters.Goals as goal

pub returns-then-is_ok : goal.returns-then-is_ok
returns-then-is_ok g c =
    let went : is_ok c.advance.result ≡ true = search rules in
    let moved = on_ok c.advance.result went c.advance.ensures.ok in
    inl (
      c.is_long.ensures.0 c.if-is_long.true,
      subst (λ w. CountedStop 2 (IsTlv 2) w c.offset_in_counted.result) moved c.offset_in_counted.ensures,
    )

use Rattle.std.proofs.Common.{◌≤◌, ◌∙◌, length, ap, arith, rules}
use Rattle.octseq_dns_tool.proofs.engine.rewrite.Writer.compose.Goals as goal

pub returns-in-Ok : goal.returns-in-Ok
returns-in-Ok c =
    let is = c.in-Ok.ensures.ok in
    let same = ap length c.finish-octets.ensures.content in
    let few : length c.in-Ok.composed.state.octets ≤ 65535 = c.in-Ok.ensures.within in
    record {
      message = is.0;
      is_text = is.1;
      octets_are = c.finish-octets.ensures.content ∙ ap (λ state. state.octets) is.2.state_is;
      size = omega (arith, same, few);
      is_short = c.in-Ok.ensures.not_long;
    }

pub returns-in-Err-Malformed : goal.returns-in-Err-Malformed
returns-in-Err-Malformed c =
    let place = c.in-Err-Malformed.place in (
      c.in-Err-Malformed.ensures.first place (search rules),
      c.in-Err-Malformed.ensures.malformed place (search rules),
    )

pub returns-in-Err-Short : goal.returns-in-Err-Short
returns-in-Err-Short c = c.in-Err-Short.ensures.short (search rules)

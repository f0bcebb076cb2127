use Rattle.std.proofs.Common.{◌≤◌, ◌∙◌, length, ap, arith, subst, sym}
use Rattle.octseq.specs.Refusal.{Is, Refusal}
use Rattle.octseq_dns.specs.Rewritten.{rewrite_error}
use Rattle.octseq_dns_tool.proofs.Moves.{moves}
use Rattle.octseq_dns_tool.proofs.engine.rewrite.Writer.rewrite.Goals as goal

pub returns-in-Ok : goal.returns-in-Ok
returns-in-Ok c =
    let contents = c.in-Ok.ensures.rewritten.contents in
    let is = c.in-Ok.ensures.rewritten.written contents.0 contents.1 in
    let same = ap length c.finish-octets.ensures.content in
    let few : length c.in-Ok.written.state.octets ≤ 65535 = c.in-Ok.ensures.rewritten.fits in
    record {
      moves = moves _ (λ stays. c.in-Ok.ensures.immovable.1 stays);
      contents = contents.0;
      contents_are = contents.1;
      written = c.finish-octets.ensures.content ∙ ap (λ state. state.octets) is.state_is;
      size = omega (arith, same, few);
    }

pub returns-in-Err-Short : goal.returns-in-Err-Short
returns-in-Err-Short c =
    let is = c.in-Err-Short.field-0-is in (
      moves _ (λ stays.
          subst (λ e. Is Refusal.malformed (rewrite_error e)) is (c.in-Err-Short.ensures.immovable.1 stays)),
      c.in-Err-Short.ensures.short (subst (λ e. Is Refusal.short (rewrite_error e)) (sym is) tt),
    )

use Rattle.std.proofs.Common.{inl, inr, refl, ap, ◌∙◌}
use Rattle.octseq.specs.Parser.{window}
use Rattle.octseq.specs.Window.{Window}
use Rattle.octseq_bgp.proofs.message.offset.offset_in_update.Goals as goal

pub returns-in_default : goal.returns-in_default
returns-in_default g c = inr (c.in_default.ensures.malformed refl, c.pos.ensures.position)

pub returns-in_default-parse : goal.returns-in_default-parse
returns-in_default-parse g c =
    let kept = c.in_default-parse.ensures.kept in
    let offset = c.pos-in_default-parse.ensures.position ∙ ap (λ (w : Window). w.position) kept in
    inl (
      window c.in-Ok.withdrawn,
      window c.parse.new.parser,
      c.in-Ok.ensures.value,
      inr (c.in_default-parse.ensures.malformed refl, offset),
    )

pub returns : goal.returns
returns g c = inl (
  window c.in-Ok.withdrawn,
  window c.parse.new.parser,
  c.in-Ok.ensures.value,
  inl (
    window c.in-Ok-parse.attributes,
    window c.parse-2.new.parser,
    c.in-Ok-parse.ensures.value,
    c.offset_in_lists.ensures,
  ),
)

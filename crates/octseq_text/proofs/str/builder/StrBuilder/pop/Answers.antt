use Rattle.std.proofs.Common.{◌≡◌, ◌-◌, length, ap, refl, sym, ◌∙◌}
use Rattle.octseq_utf8.specs.Encoding.{encoding_of}
use Rattle.octseq_utf8.specs.Text.{chars}
use Rattle.octseq_text.proofs.Ends.{encoding_short, IsPopped, popped}
use Rattle.octseq_utf8.proofs.Spelling.{chars_of, spells_nothing}
use Rattle.octseq_text.proofs.str.builder.StrBuilder.pop.Goals as goal
use Rattle.octseq_text.proofs.str.builder.StrBuilder.pop.Given as given

pub returns-in_err-last-clause-step : goal.returns-in_err-last-clause-step
returns-in_err-last-clause-step g c =
    let nothing = ap chars (sym c.as_slice.ensures.content ∙ c.in_err-last.ensures.none) ∙ chars_of spells_nothing in
    rw c.from_residual.ensures (nothing, nothing)

pub shorten-requires : goal.shorten-requires
shorten-requires g c =
    rw (c.in_ok-last.ensures.width, c.self.view_is, ← c.as_slice.ensures.content)
    (encoding_short _ _ c.in_ok-last.ensures.some)

-- what is left of the text
left : (g : given.Over) (c : goal.After-shorten g)
    → IsPopped c.as_slice.result.now (g.Octets.AsOctets.content c.shorten.new.builder) c.in_ok-last.last
left g c =
    let cut : length (g.Octets.AsOctets.content c.self.inside.octets) - c.in_ok-last.width
    ≡ length c.as_slice.result.now - length (encoding_of c.in_ok-last.last) =
    rw (c.in_ok-last.ensures.width, c.as_slice.ensures.content, c.self.view_is) refl in
    popped _ _ _ _ c.in_ok-last.ensures.some cut
    (rw (c.as_slice.ensures.content, ← c.self.view_is) c.shorten.ensures.content)

pub invariant_of-self : goal.invariant_of-self
invariant_of-self g c = (left g c).text

pub returns-clause-some : goal.returns-clause-some
returns-clause-some g c = rw (← c.as_slice.ensures.content) (left g c).octets

pub returns-clause-step : goal.returns-clause-step
returns-clause-step g c = rw (← c.as_slice.ensures.content) (left g c).characters

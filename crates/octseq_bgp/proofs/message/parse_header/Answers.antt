use Rattle.std.proofs.Common.{ℕ, length, refl, sym, subst}
use Rattle.octseq.specs.Window.{Window}
use Rattle.octseq_bgp.specs.Message.{IsHeader}
use Rattle.octseq_bgp.proofs.message.parse_header.Goals as goal

pub returns-in_err-header-clause-malformed : goal.returns-in_err-header-clause-malformed
returns-in_err-header-clause-malformed g c = λ _ kind body header short.
    let octets = g.R.AsOctets.content c.args.octets in
    let h : ℕ × (ℕ × Window) = (length octets, (kind, body)) in
    c.in_err-header.ensures.malformed refl h (subst (λ w. IsHeader w h) (sym c.from_ref-parser.ensures.window) header)

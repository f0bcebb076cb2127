use Rattle.std.proofs.Common.{◌≡◌, length, refl, subst, arith}
use Rattle.octseq.specs.Parser.{window}
use Rattle.octseq.specs.Window.{whole}
use Rattle.octseq_bgp.specs.Fills.{Whole}
use Rattle.octseq_bgp.specs.Message.{IsHeader, IsShortEnough}
use Rattle.octseq_bgp.specs.Update.{IsUpdateParts}
use Rattle.octseq_bgp.proofs.OneMessage.{one_header}
use Rattle.octseq_bgp.proofs.message.update.UpdateParts.parse.Goals as goal

pub returns-in_err-header-clause-malformed : goal.returns-in_err-header-clause-malformed
returns-in_err-header-clause-malformed g c = λ _ parts is. c.in_err-header.ensures.malformed refl 2 is.body is.header
    is.short

pub returns-in_err-parts-clause-malformed : goal.returns-in_err-parts-clause-malformed
returns-in_err-parts-clause-malformed g c = λ _ parts is.
    let octets = g.R.AsOctets.content c.args.octets in
    let h = c.in_ok-header.header in
    let same = one_header (whole octets) (length octets, (2, is.body))
    (length octets, (h.kind, window h.body)) is.header
    c.in_ok-header.ensures.header in
    c.in_err-parts.ensures.malformed refl parts (subst (λ h. Whole IsUpdateParts h.1.1 parts) same is.are)

pub returns-clause-parts : goal.returns-clause-parts
returns-clause-parts g c =
    let octets = g.R.AsOctets.content c.args.octets in
    let h = c.in_ok-header.header in
    let test = c.if-header-ne2.false in
    let kind : h.kind ≡ 2 = omega (arith, test) in
    record {
      body = window h.body;
      header = subst (λ n. IsHeader (whole octets)
          (length octets, (n, window h.body))) kind c.in_ok-header.ensures.header;
      short = subst (λ n. IsShortEnough c.args.session n (length octets)) kind c.in_ok-header.ensures.short;
      are = c.in_ok-parts.ensures.parts;
    }

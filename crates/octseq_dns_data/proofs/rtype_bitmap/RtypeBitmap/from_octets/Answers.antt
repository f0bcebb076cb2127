use Rattle.std.proofs.Common.{OnOk, ap, ◌∙◌, subst}
use Rattle.octseq.proofs.Codes.{rest_whole}
use Rattle.octseq.specs.Window.{rest}
use Rattle.octseq_dns_data.specs.RtypeBitmap.{IsRtypeBitmap}
use Rattle.octseq_dns_data.proofs.rtype_bitmap.RtypeBitmap.from_octets.Goals as goal

pub returns-clause-ok : goal.returns-clause-ok
returns-clause-ok g c =
    let all = ap rest c.from_ref-parser.ensures.window ∙ rest_whole (g.R.AsOctets.content c.args.octets) in
    subst (λ octets. OnOk c.parse.result (IsRtypeBitmap octets)) all c.parse.ensures.ok

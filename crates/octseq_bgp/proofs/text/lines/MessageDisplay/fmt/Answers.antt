use Rattle.std.proofs.Common.{rules, codes, refl, sym, subst}
use Rattle.std.specs.Fmt.{HasWritten, IsPlainFormatter}
use Rattle.octseq.specs.Parser.{window}
use Rattle.octseq_bgp.specs.MessageText.{line, refresh_text, IsMessageText}
use Rattle.octseq_bgp.specs.Parsed.{message_of}
use Rattle.octseq_bgp.proofs.Shown.{shown_of}
use Rattle.octseq_bgp.proofs.text.lines.MessageDisplay.fmt.Goals as goal

pub returns-in-Keepalive : goal.returns-in-Keepalive
returns-in-Keepalive g c = record {
  shown =
      shown_of c.write_str.result (IsMessageText (message_of c.args.self.now)) (IsPlainFormatter c.args.f.now)
      (λ text. HasWritten g.W.Write.write_str_gives c.args.f.now text c.write_str.new.self)
      (codes "keepalive\n")
      (subst (λ m. IsMessageText (message_of m) (codes "keepalive\n")) (sym c.in-Keepalive.is) refl)
      (λ plain ok. search rules);
}

pub returns-in-RouteRefresh : goal.returns-in-RouteRefresh
returns-in-RouteRefresh g c =
    let r = c.in-RouteRefresh.it in
    let text = line (codes "route-refresh") (refresh_text (r.afi, (r.subtype, (r.safi, window r.orf)))) in
    record {
      shown =
          shown_of c.fmt-in-RouteRefresh.result (IsMessageText (message_of c.args.self.now))
          (IsPlainFormatter c.args.f.now)
          (λ text. HasWritten g.W.Write.write_str_gives c.args.f.now text c.fmt-in-RouteRefresh.new.f) text
          (subst (λ m. IsMessageText (message_of m) text) (sym c.in-RouteRefresh.is) refl) (λ plain ok. search rules);
    }

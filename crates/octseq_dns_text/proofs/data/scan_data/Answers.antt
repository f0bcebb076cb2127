use Rattle.std.proofs.Common.{◌≡◌, ◌||◌, length, option_map, rules}
use Rattle.octseq_dns_name.specs.Read.{labels_of}
use Rattle.octseq_dns_scan.specs.Words.{ahead_of, offset_of}
use Rattle.octseq_dns_text.proofs.ReadTexts.{scans}
use Rattle.octseq_dns_text.specs.DataText.{ends_in_list, IsDataText}
use Rattle.octseq_dns_text.specs.Layouts.{layout_of}
use Rattle.octseq_dns_text.proofs.data.scan_data.Goals as goal

pub returns-clause-scanned : goal.returns-clause-scanned
returns-clause-scanned g c =
    let old = g.B.AsOctets.content c.args.target.now in
    let before : c.len-before.result ≡ length old = search rules in
    let cut = rw before at c.kept.ensures.err in
    rw c.kept.ensures.same
    (scans (IsDataText (option_map (λ name. labels_of name.now) c.args.origin) c.args.rtype c.args.class)
    g.B.AsOctets.limit (g.B.AsOctets.asks || ends_in_list (layout_of c.args.rtype c.args.class))
    c.append_data-scanned.result (ahead_of c.args.words) (offset_of c.args.words) old
    (g.B.AsOctets.content c.append_data-scanned.new.target) (g.B.AsOctets.content c.kept.new.target)
    c.append_data-scanned.ensures.reads c.append_data-scanned.ensures.grows c.kept.ensures.ok cut)

use Rattle.std.proofs.Common.{◌≡◌, ◌||◌, Some, None, refl, sym, ap, subst, option_map, rules}
use Rattle.octseq_dns_name.specs.Read.{labels_of}
use Rattle.octseq_dns_scan.specs.Words.{ahead_of, offset_of}
use Rattle.octseq_dns_text.proofs.DataTexts.{opaque_to, opaque_from, layout_reads, none_reads}
use Rattle.octseq_dns_text.proofs.ReadTexts.{after_word, reads_or}
use Rattle.octseq_dns_text.specs.DataText.{IsSizedText, opaque_word, ends_in_list, IsDataText}
use Rattle.octseq_dns_text.specs.Layouts.{layout_of, layout_value}
use Rattle.octseq_dns_text.specs.Reached.{ReadsText}
use Rattle.octseq_dns_text.specs.Tails.{has_list}
use Rattle.octseq_dns_text.proofs.data.append_data.Goals as goal

pub returns-in-Some-clause-reads : goal.returns-in-Some-clause-reads
returns-in-Some-clause-reads g c =
    let origin = option_map (λ name. labels_of name.now) c.args.origin in
    reads_or (IsDataText origin c.args.rtype c.args.class) g.B.AsOctets.limit g.B.AsOctets.asks
    (ends_in_list (layout_of c.args.rtype c.args.class)) c.append_opaque.result (ahead_of c.args.words)
    (offset_of c.args.words) (g.B.AsOctets.content c.args.target.now) (g.B.AsOctets.content c.append_opaque.new.target)
    (after_word (IsDataText origin c.args.rtype c.args.class) IsSizedText g.B.AsOctets.limit g.B.AsOctets.asks
    c.append_opaque.result opaque_word (ahead_of c.args.words) (ahead_of c.in-Some.after) (offset_of c.args.words)
    (offset_of c.in-Some.after) (g.B.AsOctets.content c.args.target.now)
    (g.B.AsOctets.content c.append_opaque.new.target) c.in-Some.ensures.some c.in-Some.ensures.place
    (opaque_to origin c.args.rtype c.args.class) (opaque_from origin c.args.rtype c.args.class)
    c.append_opaque.ensures.reads)

pub returns-in-Some-layout_of-clause-reads : goal.returns-in-Some-layout_of-clause-reads
returns-in-Some-layout_of-clause-reads g c =
    let origin = option_map (λ name. labels_of name.now) c.args.origin in
    let layout = c.in-Some-layout_of.layout in
    let known : layout_of c.args.rtype c.args.class ≡ Some (layout_value layout.fields.now layout.tail) =
    sym c.in-Some-layout_of.ensures in
    subst (λ list. ReadsText (IsDataText origin c.args.rtype c.args.class) g.B.AsOctets.limit
    (g.B.AsOctets.asks || list) c.append_layout.result (ahead_of c.args.words) (offset_of c.args.words)
    (g.B.AsOctets.content c.args.target.now) (g.B.AsOctets.content c.append_layout.new.target))
    (sym (ap ends_in_list known))
    (layout_reads origin c.args.rtype c.args.class (layout_value layout.fields.now layout.tail)
    known g.B.AsOctets.limit (g.B.AsOctets.asks || has_list layout.tail) c.append_layout.result
    (ahead_of c.args.words) (offset_of c.args.words) (g.B.AsOctets.content c.args.target.now)
    (g.B.AsOctets.content c.append_layout.new.target) (c.in-None.ensures.none refl) c.append_layout.ensures.reads)

pub returns-in-None-layout_of-clause-reads : goal.returns-in-None-layout_of-clause-reads
returns-in-None-layout_of-clause-reads g c =
    let origin = option_map (λ name. labels_of name.now) c.args.origin in
    rw c.offset.ensures (none_reads origin c.args.rtype c.args.class (sym c.in-None-layout_of.ensures)
    g.B.AsOctets.limit (g.B.AsOctets.asks || ends_in_list (layout_of c.args.rtype c.args.class))
    (ahead_of c.args.words) (offset_of c.args.words)
    (g.B.AsOctets.content c.args.target.now) (g.B.AsOctets.content c.args.target.now) (c.in-None.ensures.none refl))

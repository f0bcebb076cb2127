use Rattle.std.proofs.Common.{refl, ap, arith, rules}
use Rattle.octseq.specs.Parser.{window}
use Rattle.octseq.specs.Window.{Window}
use Rattle.octseq_dns_data.specs.UncompressedName.{named}
use Rattle.octseq_dns_data.proofs.PlainNames.{plain_long, plain_by_length}
use Rattle.octseq_dns_name.specs.Name.{Name, wire_length}
use Rattle.octseq_dns_name.specs.NameFormat.{one_named}
use Rattle.octseq_dns_name.specs.Read.{labels_of, name_of}
use Rattle.octseq_format.specs.Canonical.{IsSoundWindow}
use Rattle.octseq_dns_data.proofs.data.uncompressed_name.UncompressedNameFormat.parse_counted.Goals as goal

pub returns-in_err-name-clause-malformed : goal.returns-in_err-name-clause-malformed
returns-in_err-name-clause-malformed g c = λ _ other end is.
    c.in_err-name.ensures.malformed refl other end (named (window c.args.parser.now) end other is)

pub returns-then-pos-len-clause-malformed : goal.returns-then-pos-len-clause-malformed
returns-then-pos-len-clause-malformed g c = λ _ other end is.
    let w = window c.args.parser.now in
    let here = one_named.same w (name_of c.in_ok-name.name) other (window c.parse_counted.new.parser) end
    c.in_ok-name.ensures.value (named w end other is) in
    let sound : IsSoundWindow w = record { each = search rules; ordered = search rules; within = search rules } in
    let long = plain_long w.position w end other.labels 0 sound refl is.1.has_labels in
    let labels = ap (λ (n : Name). wire_length n.labels) here.0 in
    let ends = ap (λ (v : Window). v.position) here.1 in
    let len = c.len.ensures.len in
    let at = c.pos.ensures.position in
    let from = c.pos-2.ensures.position in
    let other_len = c.if-pos-len.true in
    omega (arith, long, labels, ends, len, at, from, other_len)

pub returns-clause-value : goal.returns-clause-value
returns-clause-value g c =
    let w = window c.args.parser.now in
    let len = c.len.ensures.len in
    let at = c.pos.ensures.position in
    let from = c.pos-2.ensures.position in
    let same_len = c.if-pos-len.false in
    let is = c.in_ok-name.ensures.value in
    let sound : IsSoundWindow w = record { each = search rules; ordered = search rules; within = search rules } in (
      is.0,
      record {
        has_labels = plain_by_length w.position w (window c.parse_counted.new.parser) (labels_of c.in_ok-name.name)
            is.1.pointers sound c.a_name_has_labels.ensures.labels is.1.has_labels
            (omega (arith, len, at, from, same_len));
        short = is.1.short;
      },
    )

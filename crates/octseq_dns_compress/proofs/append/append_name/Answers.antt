use Rattle.std.proofs.Common.{◌++◌, ap, ◌∙◌, length, length-append, take, arith, length-take}
use Rattle.octseq_dns_compress.proofs.Words.{ended, labels_wire, plain_labels}
use Rattle.octseq_dns_compress.proofs.Composes.{name_refused, name_appended, name_taken_back}
use Rattle.octseq_dns_compress.proofs.Grown.{known_targets}
use Rattle.octseq_dns_compress.proofs.PlainLabels.{source_is, unrooted_longer}
use Rattle.octseq_dns_compress.proofs.append.append_name.Goals as goal

pub search-ending-requires-clause-targets : goal.search-ending-requires-clause-targets
search-ending-requires-clause-targets g c =
    rw (c.as_ref-2.ensures.value, c.as_slice.ensures) (known_targets _ _ c.requires.message.known)

pub new-plain-requires-clause-source : goal.new-plain-requires-clause-source
new-plain-requires-clause-source g c =
    source_is c.as_ref.result.now c.octets_ref-source.result c.parser-parser.result _ c.as_ref.ensures.value
    c.octets_ref-source.ensures c.parser-parser.ensures

pub returns-in-Err-clause-named : goal.returns-in-Err-clause-named
returns-in-Err-clause-named g c old =
    rw (← c.new-plain.ensures)
    (name_refused old (plain_labels c.new-plain.result) c.search-ending.result
    (rw (c.as_ref-2.ensures.value, c.as_slice.ensures) at c.search-ending.ensures.ending)
    c.in-Err.error c.in-Err.ensures.appended)

pub returns-in-Err-remember-clause-named : goal.returns-in-Err-remember-clause-named
returns-in-Err-remember-clause-named g c old =
    rw (← c.new-plain.ensures)
    (name_taken_back old (plain_labels c.new-plain.result) c.search-ending.result
    (rw (c.as_ref-2.ensures.value, c.as_slice.ensures) at c.search-ending.ensures.ending)
    c.in_default.field-0 c.in_default.ensures.appended c.len-start.result c.len-start.ensures.content _
    c.remember.ensures.before _ _ c.truncate.ensures.content c.keep_before.ensures)

pub returns-clause-named : goal.returns-clause-named
returns-clause-named g c old =
    rw (← c.new-plain.ensures)
    (name_appended old (plain_labels c.new-plain.result) c.search-ending.result
    (rw (c.as_ref-2.ensures.value, c.as_slice.ensures) at c.search-ending.ensures.ending)
    c.in_default.field-0 c.in_default.ensures.appended c.len-start.result c.len-start.ensures.content _
    c.remember.ensures.before c.in_default-remember.ensures.kept c.remember.ensures.few c.append_encoded.ensures.most
    c.in_default.ensures.within)

pub returns-clause-least : goal.returns-clause-least
returns-clause-least g c =
    let end = c.search-ending.result in
    let labels = plain_labels c.new-plain.result in
    let first = labels_wire (take end.written labels) in
    let long = ap length c.in_default.ensures.appended.ok
    ∙ length-append (g.B.AsOctets.content c.args.octets.now) (first ++ ended end.next) in
    let both = length-append first (ended end.next) in
    let each = unrooted_longer (take end.written labels) in
    let taken = length-take end.written labels in
    let within = c.search-ending.ensures.written in
    let found = c.search-ending.ensures.least in
    omega (arith, long, both, each, taken, within, found, c.remember.ensures.on, ap length c.new-plain.ensures)

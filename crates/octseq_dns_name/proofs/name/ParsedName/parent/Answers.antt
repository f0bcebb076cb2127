use Rattle.std.proofs.Common.{drop, refl, sym, ap, rules}
use Rattle.octseq.specs.Parser.{window}
use Rattle.octseq.specs.Window.{rest}
use Rattle.octseq_dns_name.proofs.Known.{ahead_of}
use Rattle.octseq_dns_name.proofs.Parents.{passes_from, parent_named, parent_labels, parent_none}
use Rattle.octseq_dns_name.proofs.name.ParsedName.parent.Goals as goal

pub next_label-requires-clause-known : goal.next_label-requires-clause-known
next_label-requires-clause-known g c =
    let name = c.args.self.now in
    ahead_of (window name.parser) c.pos-start.result c.pos-start.ensures.position name.named

pub returns-in_err-next_label-clause-root : goal.returns-in_err-next_label-clause-root
returns-in_err-next_label-clause-root g c =
    let name = c.args.self.now in
    let none = parent_none (window name.parser) c.pos-start.result name.named c.pos-start.ensures.position
    (c.in_err-next_label.ensures.none refl) in
    (λ _. none, search rules)

pub invariant_of-result : goal.invariant_of-result
invariant_of-result g c =
    let name = c.args.self.now in
    let label = window c.in_ok-next_label.field-0 in
    let on = window c.next_label.new.parser in
    let passes = passes_from (window name.parser) label c.pos-start.result c.next_label.new.start on (rest label)
    c.pos-start.ensures.position c.in_ok-next_label.ensures.place c.in_ok-next_label.ensures.some
    c.next_label.ensures.ordered in
    record {
      named = parent_named (window name.parser) label c.next_label.new.start on (rest label) name.named passes;
      measured = tt;
    }

pub returns-clause-labels : goal.returns-clause-labels
returns-clause-labels g c =
    let name = c.args.self.now in
    let label = window c.in_ok-next_label.field-0 in
    let on = window c.next_label.new.parser in
    let passes = passes_from (window name.parser) label c.pos-start.result c.next_label.new.start on (rest label)
    c.pos-start.ensures.position c.in_ok-next_label.ensures.place c.in_ok-next_label.ensures.some
    c.next_label.ensures.ordered in
    sym (ap (drop 1) (parent_labels (window name.parser) label c.next_label.new.start on (rest label) name.named
    c.result-1.given.0 passes))

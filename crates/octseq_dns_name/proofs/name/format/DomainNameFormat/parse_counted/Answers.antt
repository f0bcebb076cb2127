use Rattle.std.proofs.Common.{refl, arith}
use Rattle.octseq.specs.Parser.{window}
use Rattle.octseq_dns_name.specs.NameFormat.{name_of_window}
use Rattle.octseq_dns_name.specs.Read.{labels_of}
use Rattle.octseq_dns_name.proofs.Names.{name_takes}
use Rattle.octseq_dns_name.proofs.name.format.DomainNameFormat.parse_counted.Goals as goal

pub returns-in_err-name-clause-malformed : goal.returns-in_err-name-clause-malformed
returns-in_err-name-clause-malformed g c = λ _ other end is.
    c.in_err-name.ensures.malformed refl other.labels end is.1

pub returns-clause-end : goal.returns-clause-end
returns-clause-end g c =
    (name_of_window (window c.args.parser.now) (window c.parse_counted.new.parser) (labels_of c.in_ok-name.name)
    c.in_ok-name.ensures.name).1

pub returns-clause-onward : goal.returns-clause-onward
returns-clause-onward g c =
    let less = name_takes (window c.args.parser.now) (window c.parse_counted.new.parser) (labels_of c.in_ok-name.name)
    c.in_ok-name.ensures.name in
    omega (arith, less)

pub returns-clause-counted : goal.returns-clause-counted
returns-clause-counted g c =
    let counted = c.in_ok-name.ensures.counted (labels_of c.in_ok-name.name) (window c.parse_counted.new.parser)
    c.in_ok-name.ensures.name in
    omega (arith, counted)

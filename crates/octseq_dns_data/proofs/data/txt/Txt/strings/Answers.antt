use Rattle.std.proofs.Common.{ap, length, arith}
use Rattle.octseq.specs.Parser.{window}
use Rattle.octseq_dns_data.specs.OneRow.{strings_once}
use Rattle.octseq_dns_data.proofs.data.txt.Txt.strings.Goals as goal

pub returns-clause-strings : goal.returns-clause-strings
returns-clause-strings g c =
    let self = c.args.self.now in
    ap (λ held. held.0) (strings_once (window self.parser) self.end c.result-2-1.given.0 self.strings)

pub returns-clause-some : goal.returns-clause-some
returns-clause-some g c =
    let self = c.args.self.now in
    let same = ap (λ held. length held.0) (strings_once (window self.parser) self.end c.result-2-1.given.0 self.strings)
    in
    let some = self.some in
    omega (arith, same, some)
